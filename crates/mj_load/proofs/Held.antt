-- BREAK on a line that the program keeps.
use Rattle.std.proofs.Common.{◌≡◌, ℕ, zero, suc, ◌-◌, ◌<◌, List, [], ◌∷◌, None, Some, Bool, false, map, option_map, refl, sym, ap, ◌∙◌, arith}
use Rattle.std.specs.Prelude.{slice_get}
use Rattle.mj_ast.specs.declared.routine.Line as kept
use Rattle.mj_ast.specs.Trees.{line_of}
use Rattle.mj_ast.specs.Breaks.{holds_break}
use Rattle.mj_load.specs.Breaks.{holds_break_at}

kept_at : (lines : List kept.Line) (k : ℕ) → slice_get (map line_of lines) k ≡ option_map line_of (slice_get lines k)
kept_at [] k = refl
kept_at (line ∷ lines) zero = refl
kept_at (line ∷ lines) (suc k) = kept_at lines k

pub at_line : (lines : List kept.Line) (k : ℕ) (line : kept.Line) → 0 < k → slice_get lines (k - 1) ≡ Some line → holds_break_at (map line_of lines) k ≡ holds_break (line_of line)
at_line lines zero line some e = absurd (omega (arith, some))
at_line lines (suc k) line some e =
    let here : suc k - 1 ≡ k = omega arith in
    let there : slice_get lines k ≡ Some line = ap (slice_get lines) (sym here) ∙ e in
    ap (λ o. elim o as (λ v. Bool) [ None ↦ false | Some l ↦ holds_break l ]) (kept_at lines k ∙ ap (option_map line_of) there)
