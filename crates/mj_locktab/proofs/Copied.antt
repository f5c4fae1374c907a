-- A copy of each job with its holds has the holds.
use Rattle.std.proofs.Common.{◌≡◌, ℕ, Bool, true, false, cond, List, [], ◌∷◌, ◌++◌, Option, Some, refl, sym, ap, ◌∙◌, subst}
use Rattle.std.specs.Ordering.{nat_cmp}
use Rattle.std.specs.List.{AllZip}
use Rattle.std.specs.List.Sorted.{IsStrictlySortedBy}
use Rattle.std.specs.Map.{keys_of, lookup}
use Rattle.std.specs.BTreeMap.{BTreeMap, is_at}
use Rattle.mj_subs.specs.Name.{Name}
use Rattle.mj_locktab.specs.Parts.{Parts, held_by, holds_of, part_in, part_at, IsPart, AreParts}

-- each name with its count is copied, and each job with its names
abbrev pub AreCopies : List (Name × ℕ) → List (Name × ℕ) → Type 0
AreCopies xs ys = AllZip (λ (x y : Name × ℕ). (y.0 ≡ x.0) × (y.1 ≡ x.1)) xs ys

abbrev pub ArePartCopies : Parts → Parts → Type 0
ArePartCopies es fs = AllZip (λ (p q : ℕ × BTreeMap Name ℕ). (q.0 ≡ p.0) × AreCopies p.1.entries q.1.entries) es fs

same_names : (xs ys : List (Name × ℕ)) → AreCopies xs ys → ys ≡ xs
same_names [] [] h = refl
same_names [] (y ∷ ys) h = absurd h
same_names (x ∷ xs) [] h = absurd h
same_names (x ∷ xs) (y ∷ ys) h = (λ i. (h.0.0 i, h.0.1 i) ∷ same_names xs ys h.1 i)

pub holds_copied : (es fs : Parts) → ArePartCopies es fs → holds_of fs ≡ holds_of es
holds_copied [] [] h = refl
holds_copied [] (f ∷ fs) h = absurd h
holds_copied (e ∷ es) [] h = absurd h
holds_copied (e ∷ es) (f ∷ fs) h = (λ i. held_by (h.0.0 i) (same_names e.1.entries f.1.entries h.0.1 i) ++ holds_copied es fs h.1 i)

keys_copied : (es fs : Parts) → ArePartCopies es fs → keys_of fs ≡ keys_of es
keys_copied [] [] h = refl
keys_copied [] (f ∷ fs) h = absurd h
keys_copied (e ∷ es) [] h = absurd h
keys_copied (e ∷ es) (f ∷ fs) h = (λ i. h.0.0 i ∷ keys_copied es fs h.1 i)

in_cond : (j : ℕ) (b : Bool) (v w : BTreeMap Name ℕ) (o p : Option (BTreeMap Name ℕ)) → w.entries ≡ v.entries → part_in j p ≡ part_in j o
    → part_in j (cond b (Some w) p) ≡ part_in j (cond b (Some v) o)
in_cond j true v w o p e f = ap (held_by j) e
in_cond j false v w o p e f = f

part_copied : (es fs : Parts) → ArePartCopies es fs → (j : ℕ) → part_at fs j ≡ part_at es j
part_copied [] [] h j = refl
part_copied [] (f ∷ fs) h j = absurd h
part_copied (e ∷ es) [] h j = absurd h
part_copied (e ∷ es) (f ∷ fs) h j =
    ap (λ (k : ℕ). part_in j (cond (is_at (nat_cmp j) k) (Some f.1) (lookup (is_at (nat_cmp j)) fs))) h.0.0
    ∙ in_cond j (is_at (nat_cmp j) e.0) e.1 f.1 (lookup (is_at (nat_cmp j)) es) (lookup (is_at (nat_cmp j)) fs) (same_names e.1.entries f.1.entries h.0.1) (part_copied es fs h.1 j)

pub parts_copied : (es fs : Parts) → ArePartCopies es fs → AreParts es → AreParts fs
parts_copied es fs h are = record {
  rises = subst (λ (ks : List ℕ). IsStrictlySortedBy nat_cmp ks) (sym (keys_copied es fs h)) are.rises;
  each = λ j. subst (IsPart j) (sym (part_copied es fs h j)) (are.each j);
}
