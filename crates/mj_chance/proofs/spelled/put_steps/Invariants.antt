use Rattle.std.proofs.Common.{◌≡◌, ◌++◌, drop}
use Rattle.mj_chance.specs.Spelled.{ended_lines}
use Rattle.mj_chance.proofs.spelled.put_steps.Given as goal

-- the lines that are left to put
abbrev pub invariant-steps : goal.invariant-steps
invariant-steps l = l.bytes.items ++ ended_lines (drop l.step-index l.steps) ≡ ended_lines l.steps
