use Rattle.std.proofs.Common.{◌≡◌}
use Rattle.mj_remade.proofs.branches.make_steps.Given as goal

-- the breakpoints are those of before
abbrev pub invariant-loop-step : goal.invariant-loop-step
invariant-loop-step g l = l.debugger.marks ≡ l.fn.debugger.marks
