use Rattle.std.proofs.Common.{◌∙◌, ℕ, take, ap}
use Rattle.mj_core.specs.Shown.{Shown}
use Rattle.mj_remade.proofs.Keeping.{kept_in}
use Rattle.mj_remade.proofs.branches.cut.Goals as goal

pub returns-clause-told : goal.returns-clause-told
returns-clause-told g c =
    c.in_ok-told.ensures
    ∙ ap (λ (place : ℕ). take place c.core.result.now.history) c.place.ensures.value
    ∙ ap (λ (core : Shown). take c.args.debugger.now.place core.history) c.core.ensures

pub returns-clause-marks : goal.returns-clause-marks
returns-clause-marks g c = kept_in c.args.debugger.now.core.image c.args.debugger.now.marks c.in_ok-marks.marks.items c.in_ok-marks.ensures
