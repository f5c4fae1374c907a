use Rattle.std.proofs.Common.{List, [], Option, sym, subst}
use Rattle.mj_semantics.specs.State.{Place}
use Rattle.mj_jobvm.specs.Run.{Log}
use Rattle.mj_gather.specs.Rans.{IsRan, ArePlacesIn}
use Rattle.mj_gather.specs.declared.ran.Stop.TheVariants as stops
use Rattle.mj_work.proofs.Standing.{not_begun, none_placed}
use Rattle.mj_work.proofs.job.Worker.run_job.Goals as goal

pub new-requires-in_default-clause-ran : goal.new-requires-in_default-clause-ran
new-requires-in_default-clause-ran g c =
    let P : Log → Type 0 = λ l. IsRan c.args.self.now.image.now c.args.claim l stops.Memory in
    subst P (sym c.new.ensures.items)
    (not_begun c.args.self.now.image.now c.args.claim c.requires.none)

pub new-requires-in_default-clause-places : goal.new-requires-in_default-clause-places
new-requires-in_default-clause-places g c =
    let P : Log → Type 0 = λ l. ArePlacesIn c.args.self.now.image.now c.args.claim l c.new-none.result.places in
    let Q : List (Option Place) → Type 0 = λ ps. ArePlacesIn c.args.self.now.image.now c.args.claim [] ps in
    subst P (sym c.new.ensures.items) (subst Q (sym c.new-none.ensures) (none_placed c.args.self.now.image.now c.args.claim))
