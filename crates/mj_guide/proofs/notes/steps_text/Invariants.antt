use Rattle.std.proofs.Common.{◌≡◌, ◌++◌, drop}
use Rattle.mj_guide.specs.Notes.{steps_bytes}
use Rattle.mj_guide.proofs.notes.steps_text.Given as goal

-- the lines of the steps that are left are to come
abbrev pub invariant-loop-step : goal.invariant-loop-step
invariant-loop-step l = l.bytes.items ++ steps_bytes (drop l.step-index l.steps) ≡ steps_bytes l.fn.steps
