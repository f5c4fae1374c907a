use Rattle.std.specs.Prelude.{IfOk, true, false}
use Rattle.std.proofs.Common.{◌≡◌, List, subst}
use Rattle.mj_ask.specs.declared.noted.Noted.{Noted}
use Rattle.mj_semantics.specs.State.{Place}
use Rattle.mj_debug.specs.Breaks.{is_breakpoint}
use Rattle.mj_replica.specs.Replays.{history_of}
use Rattle.mj_remade.specs.declared.marks.Mark.{Mark}
use Rattle.mj_remade.specs.Marks.{all_over}
use Rattle.mj_remade.proofs.branches.made_again.Goals as goal

pub returns-clause-same : goal.returns-clause-same
returns-clause-same g c =
    let new = c.remade-same.new.debugger in
    let P : List Noted → Type 0 = λ told. IfOk c.remade-same.result (λ same. same ≡ true → new.core.history ≡ history_of told) in
    subst P c.as_slice-events.ensures.value c.remade-same.ensures.same

pub returns-clause-other : goal.returns-clause-other
returns-clause-other g c =
    let new = c.remade-same.new.debugger in
    let P : List Noted → Type 0 = λ told. IfOk c.remade-same.result (λ same. same ≡ false → new.core.history ≡ history_of told → ⊥) in
    subst P c.as_slice-events.ensures.value c.remade-same.ensures.other

pub returns-clause-marks : goal.returns-clause-marks
returns-clause-marks g c =
    let new = c.remade-same.new.debugger in
    let P : List Mark → Type 0 = λ marks. IfOk c.remade-same.result
    (λ same. (line : Place) → is_breakpoint new.core.image new.marks line ≡ all_over (is_breakpoint new.core.image c.args.debugger.now.marks) marks line) in
    subst P c.as_slice-lines.ensures.value c.remade-same.ensures.marks
