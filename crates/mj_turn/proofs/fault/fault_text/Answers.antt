use Rattle.std.proofs.Common.{ap, ◌∙◌}
use Rattle.std.proofs.lemmas.Result.{IfOk-weaker}
use Rattle.mj_semantics.specs.State.{principal, column_at}
use Rattle.mj_frames.specs.Places.{line_at}
use Rattle.mj_machine.specs.Kept.{state_of}
use Rattle.mj_turn.specs.Faults.{told_bytes}
use Rattle.mj_turn.proofs.fault.fault_text.Goals as goal

pub returns : goal.returns
returns c =
    let f = c.args.fault in
    let line = line_at c.place.result in
    IfOk-weaker c.told_text.result _ _
    (λ t h. h ∙ ap (λ k. told_bytes f k line) c.principal_column.ensures ∙ ap (told_bytes f (column_at principal (state_of c.args.machine.now))) c.place.ensures)
    c.told_text.ensures
