use Rattle.std.proofs.Common.{◌≡◌, drop, map}
use Rattle.mj_ast.specs.Trees.{routine_of}
use Rattle.mj_semantics.specs.Lines.{lines_of}
use Rattle.mj_load.proofs.image.Image.has_break.Given as goal

-- those before it have other names
abbrev pub invariant-loop-candidate : goal.invariant-loop-candidate
invariant-loop-candidate l = lines_of (map routine_of (drop l.candidate-index l.candidate-items)) l.routine ≡ lines_of (map routine_of l.candidate-items) l.routine
