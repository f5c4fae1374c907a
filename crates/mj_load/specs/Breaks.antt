-- Which lines of an image hold BREAK.
use Rattle.std.specs.Prelude.{ℕ, zero, suc, Bool, false, List, None, Some, slice_get}
use Rattle.mj_ast.specs.Syntax.{Line}
use Rattle.mj_ast.specs.Breaks.{holds_break}
use Rattle.mj_semantics.specs.Lines.{lines_of}
use Rattle.mj_load.specs.Image.{Loaded, routines_of}

-- whether line k of these, from 1 on, holds BREAK; `false` where there is no such line
abbrev pub holds_break_at : List Line → ℕ → Bool
holds_break_at lines zero = false
holds_break_at lines (suc k) = elim (slice_get lines k) [ None ↦ false | Some line ↦ holds_break line ]

-- whether line k of the first routine of an image with a name holds BREAK; `false` where there is no such routine or line
abbrev pub has_break : Loaded → List ℕ → ℕ → Bool
has_break image routine k = holds_break_at (lines_of (routines_of image) routine) k
