-- A label leads to the first line with it.
use Rattle.std.proofs.Common.{◌≡◌, ℕ, ◌+◌, List, [], ◌∷◌, length, Option, Some, None, refl, ap, ◌∙◌, arith}
use Rattle.std.specs.Prelude.{Bool, false, if◌then◌else◌}
use Rattle.std.specs.Option.{unwrap_or}
use Rattle.std.specs.Str.{bytes_eq}
use Rattle.mj_ast.specs.Syntax.{Line}
use Rattle.mj_semantics.specs.Lines.{labelled}
use Rattle.mj_pcode.specs.Labels.{Labels, line_with, with_label}
use Rattle.mj_pcode.proofs.Spelled.{line_behind}
use Rattle.mj_asm.specs.Correct.{with_labels}

-- a line by its label, where `later` is the line behind it
head_finds : (l : List ℕ) (k later : ℕ) (o : Option (List ℕ)) (labels : Labels) → unwrap_or (line_with l (elim o as (λ v. Labels) [ None ↦ labels | Some t ↦ with_label labels t k ])) later
    ≡ unwrap_or (line_with l labels) (if (elim o as (λ v. Bool) [ None ↦ false | Some t ↦ bytes_eq t l ]) then k else later)
head_finds l k later None labels = refl
head_finds l k later (Some t) labels = line_behind l t k later labels

finds_behind : (l : List ℕ) (labels : Labels) (k : ℕ) (lines : List Line)
    → unwrap_or (line_with l (with_labels labels k lines)) (k + length lines) ≡ unwrap_or (line_with l labels) (labelled l k lines)
finds_behind l labels k [] = let e : k + length {A = Line} [] ≡ k = omega arith in ap (unwrap_or (line_with l labels)) e
finds_behind l labels k (line ∷ lines) =
    let e : k + length (line ∷ lines) ≡ k + 1 + length lines = omega arith in
    let more : Labels = elim line.label as (λ v. Labels) [ None ↦ labels | Some t ↦ with_label labels t k ] in
    ap (unwrap_or (line_with l (with_labels labels k (line ∷ lines)))) e
    ∙ finds_behind l more (k + 1) lines
    ∙ head_finds l k (labelled l (k + 1) lines) line.label labels

pub finds : (l : List ℕ) (k : ℕ) (lines : List Line) → unwrap_or (line_with l (with_labels [] k lines)) (k + length lines) ≡ labelled l k lines
finds l k lines = finds_behind l [] k lines
