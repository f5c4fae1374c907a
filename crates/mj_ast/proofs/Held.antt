-- BREAK among the commands that the program keeps.
use Rattle.std.proofs.Common.{◌≡◌, List, [], ◌∷◌, map, refl, ap}
use Rattle.std.specs.Prelude.{◌||◌}
use Rattle.std.specs.List.{list_any}
use Rattle.mj_ast.specs.declared.routine.LineCommand as step
use Rattle.mj_ast.specs.Trees.{command_of, step_of}
use Rattle.mj_ast.specs.Breaks.{is_break}

pub kept_alike : (steps : List step.LineCommand) → list_any (λ s. is_break (command_of s.command)) steps ≡ list_any (λ s. is_break s.command) (map step_of steps)
kept_alike [] = refl
kept_alike (s ∷ steps) = ap (λ t. is_break (command_of s.command) || t) (kept_alike steps)
