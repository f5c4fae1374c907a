-- Steps, spelled as a file of steps has them. Byte 10 ends a line.
use Rattle.std.specs.Prelude.{ℕ, List, [], ◌∷◌, ◌++◌}
use Rattle.mj_steps.specs.declared.step.Step.{Step}
use Rattle.mj_steps.specs.Steps.{line_of}

-- the line of each step, with its end
abbrev pub ended_lines : List Step → List ℕ
ended_lines [] = []
ended_lines (step ∷ steps) = (line_of step ++ 10 ∷ []) ++ ended_lines steps
