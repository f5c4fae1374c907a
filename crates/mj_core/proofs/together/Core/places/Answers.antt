use Rattle.std.proofs.Common.{◌≡◌, List, Option, sym, ap, ◌∙◌, subst}
use Rattle.mj_semantics.specs.State.{Place}
use Rattle.mj_semantics.specs.Program.{Program}
use Rattle.mj_semantics.specs.Job.{Start}
use Rattle.mj_load.specs.Image.{program_of}
use Rattle.mj_jobvm.specs.Run.{Log, replies_of}
use Rattle.mj_jobvm.specs.Places.{ArePlaces}
use Rattle.mj_core.specs.Runs.{start_in}
use Rattle.mj_core.specs.Ties.{Placed}
use Rattle.mj_core.proofs.Showing.{if_none, not_some}
use Rattle.mj_core.proofs.together.Core.places.Goals as goal

-- the places of a log by other names of both
as_named : (program : Program) (start : Start) (log named : Log) (places kept : List (Option Place)) → log ≡ named → kept ≡ places
    → ArePlaces program start (replies_of log) places → ArePlaces program start (replies_of named) kept
as_named program start log named places kept is same are =
    subst (λ ps. ArePlaces program start (replies_of named) ps) (sym same) (subst (λ (l : Log). ArePlaces program start (replies_of l) places) is are)

pub returns-in_err-slot-clause-none : goal.returns-in_err-slot-clause-none
returns-in_err-slot-clause-none g c = if_none c.from_residual.result c.in_err-slot.ensures.none.0

pub returns-in_err-slot-clause-some : goal.returns-in_err-slot-clause-some
returns-in_err-slot-clause-some g c = not_some c.from_residual.result _ c.from_residual.ensures

pub returns-clause-some : goal.returns-clause-some
returns-clause-some g c =
    let slot = c.in_ok-slot.slot.now in
    let seen = c.in_ok-slot.ensures.some in (
      seen.row,
      seen.there,
      as_named (program_of c.args.self.now.image) (start_in c.args.job seen.row.start) slot.job.run.log _ slot.job.run.places _ seen.log
          (c.places.ensures.which ∙ ap (λ (s : Placed g.row.A.Denot). s.job.run.places) c.slot.view_is) seen.run.1.placed,
    )
