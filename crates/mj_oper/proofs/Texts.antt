-- Truth values as texts, and the order of subscripts that are no numbers.
use Rattle.std.proofs.Common.{◌≡◌, ℕ, Bool, true, false, List, [], ◌∷◌, refl}
use Rattle.std.proofs.lemmas.Bool.{false_from_ne_true}
use Rattle.std.specs.Fmt.{digits}
use Rattle.std.specs.Ordering.{nat_cmp}
use Rattle.std.specs.Cmp.Lexicographic.{slice_cmp}
use Rattle.mj_num.specs.Number.{canonic_text, is_canonic, number_of_truth}
use Rattle.mj_subs.specs.Collation.{subscript_cmp}
use Rattle.mj_oper.specs.Operators.{truth_text}

pub written_truth : (b : Bool) → canonic_text (number_of_truth b) ≡ truth_text b
unfolding digits
written_truth true = refl
written_truth false = refl

pub other_texts : (s t : List ℕ) → (is_canonic s ≡ true → ⊥) → (is_canonic t ≡ true → ⊥) → subscript_cmp s t ≡ slice_cmp nat_cmp s t
other_texts [] [] p q = refl
other_texts [] (c ∷ t) p q = refl
other_texts (b ∷ s) [] p q = refl
other_texts (b ∷ s) (c ∷ t) p q = rw (false_from_ne_true _ p, false_from_ne_true _ q)
