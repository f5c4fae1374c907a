use Rattle.std.proofs.Common.{◌≡◌, ◌≤◌, ◌++◌, ℕ, List, length, map, vec_len}
use Rattle.mj_ast.specs.Routines.{lines_of}
use Rattle.mj_ast.specs.Trees.{line_of}
use Rattle.mj_rou.specs.Read.{AreRead, AreApart, HoldsLabels, labels_of}
use Rattle.mj_rou.proofs.routine.read.Given as goal

pub record SoFar (Count : Type 0) (Goes : Type 0) : Type 0 where
  pub count : Count
  pub goes : Goes

abbrev pub invariant-lines : goal.invariant-lines
invariant-lines l = SoFar (vec_len l.lines ≤ 10000) ((front : List (List ℕ)) × (lines_of l.bytes ≡ front ++ lines_of l.rest) ×
    AreRead front (map line_of l.lines.items) × AreApart front × HoldsLabels (labels_of front) l.labels)

abbrev pub decreases-lines : goal.decreases-lines
decreases-lines l = length l.rest
