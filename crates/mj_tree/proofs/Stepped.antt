-- One step over the places of a row and the others behind it.
use Rattle.std.proofs.Common.{◌≡◌, List, [], ◌∷◌, ◌++◌, length, Option, Some, None, Bor, refl, sym, ap, ◌∙◌, arith}
use Rattle.std.specs.Prelude.{MatchOption}
use Rattle.std.specs.Map.Iter.{TakesFirst, deref_pair}

-- where the row has no place left, the next of the others is taken
pub past_row : {K X : Type 0} (row left others rest : List (K × X)) (r : Option (Bor K × Bor X)) → length row ≡ 0 → left ≡ row → TakesFirst deref_pair others r rest
    → MatchOption r ((row ++ others ≡ []) × (left ++ rest ≡ [])) (λ x. row ++ others ≡ deref_pair x ∷ (left ++ rest))
past_row {K} {X} [] left others rest None none same h = (h.0, ap (λ (xs : List (K × X)). xs ++ rest) same ∙ h.1)
past_row {K} {X} [] left others rest (Some x) none same h = h ∙ ap (λ (xs : List (K × X)). deref_pair x ∷ (xs ++ rest)) (sym same)
past_row (k ∷ row) left others rest r none same h = absurd (omega arith)
