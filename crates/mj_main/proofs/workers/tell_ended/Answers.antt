-- The history that is gathered is a run.
use Rattle.std.specs.List.{All}
use Rattle.std.proofs.Common.{◌≡◌, List, sym, subst}
use Rattle.mj_gather.specs.Rans.{Kept}
use Rattle.mj_main.proofs.workers.tell_ended.Goals as goal

pub tell_trace-requires-clause-run : goal.tell_trace-requires-clause-run
tell_trace-requires-clause-run g c =
    let P : List Kept → Type 0 = λ l. All (λ (r : Kept). r.image ≡ c.args.image.now) l in
    c.in-Ok.ensures.run c.args.image.now (subst P (sym c.deref.ensures.value) c.requires.images)
