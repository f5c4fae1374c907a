use Rattle.std.proofs.Common.{◌≡◌, ◌+◌, ◌≤◌, ◌++◌, length, map}
use Rattle.mj_ast.specs.Trees.{step_of}
use Rattle.mj_asm.specs.Code.{steps_code}
use Rattle.mj_asm.specs.Sites.{here_of}
use Rattle.mj_asm.proofs.Steps.{weight}
use Rattle.mj_asm.proofs.emit.+steps.Given as goal

abbrev pub decreases-emit_body : goal.decreases-emit_body
decreases-emit_body l = weight l.behind.now + 1

abbrev pub decreases-emit_else : goal.decreases-emit_else
decreases-emit_else l = weight l.behind.now + 1

abbrev pub decreases-emit_for : goal.decreases-emit_for
decreases-emit_for l = weight l.behind.now + 2

abbrev pub decreases-emit_if : goal.decreases-emit_if
decreases-emit_if l = weight l.behind.now + length l.conditions.now + 2

abbrev pub decreases-emit_ifs : goal.decreases-emit_ifs
decreases-emit_ifs l = weight l.behind.now + length l.conditions.now + 1

abbrev pub decreases-emit_steps : goal.decreases-emit_steps
decreases-emit_steps l = weight l.steps.now

-- the code so far, and that of what is left
abbrev pub invariant-emit_steps-loop-step : goal.invariant-emit_steps-loop-step
invariant-emit_steps-loop-step l = record {
  code :
      l.code.items ++ steps_code (here_of l.site) (length l.code.items) l.close (map step_of l.rest)
      ≡ l.fn.code.items ++ steps_code (here_of l.site) (length l.fn.code.items) l.close (map step_of l.steps);
  within : weight l.rest ≤ weight l.steps;
}

abbrev pub decreases-emit_steps-loop-step : goal.decreases-emit_steps-loop-step
decreases-emit_steps-loop-step l = length l.rest
