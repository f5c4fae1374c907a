-- In the orders of `Collation` only equal values tie.
use Rattle.std.proofs.Common.{◌≡◌, ◌↔◌, ℕ, ℤ, Bool, true, false, List, [], ◌∷◌, Option, Some, refl, sym, ap, subst, ◌∙◌}
use Rattle.std.specs.Bool.{Decides}
use Rattle.std.specs.declared.cmp.Ordering.{Ordering}
use Rattle.std.specs.declared.cmp.Ordering.TheVariants.{Less, Equal, Greater}
use Rattle.std.specs.Ordering.{nat_cmp, int_eq, ordering_then, eq_by_cmp, is_eq}
use Rattle.std.specs.Cmp.{IsTotalOrder, IsEquivalence, Equal-is}
use Rattle.std.specs.Cmp.Lexicographic.{slice_cmp, pointwise, bytes_decides}
use Rattle.std.specs.Str.{bytes_eq}
use Rattle.std.proofs.lemmas.Cmp.{tied_itself, eq_by_cmp_equiv}
use Rattle.std.proofs.lemmas.Bool.Decides.{same_from_decides, Decides-like, Decides-int_eq}
use Rattle.std.specs.FinMap.{IsAntisymmetric, nat_cmp-IsAntisymmetric, int_cmp-IsAntisymmetric, slice_cmp-IsAntisymmetric}
use Rattle.mj_num.specs.Number.{number_of, is_canonic}
use Rattle.mj_num.proofs.Laws.{canonic_same}
use Rattle.mj_subs.specs.Name.{Name, names_eq}
use Rattle.mj_subs.specs.Tag.{IsTag}
use Rattle.mj_subs.specs.Collation.{filled_cmp, subscript_cmp, subscripts_cmp, kind_cmp, name_cmp}
use Rattle.mj_subs.specs.Laws.Total.{subscript_cmp_total, subscripts_cmp_total, subscripts_cmp-slice, name_cmp_total}
use Rattle.mj_subs.specs.Laws.Tests.{lists_eq-Decides, names_eq-Decides}

-- an order ties exactly equal values
tied : {K : Type 0} {R : K → K → Ordering} → IsTotalOrder R → IsAntisymmetric R → (x y : K) → (R x y ≡ Equal) ↔ (x ≡ y)
tied {R = R} o same x y = (same x y, λ e. subst (λ z. R x z ≡ Equal) e (tied_itself o x))

-- a test of equal values is the test of a tie
tested : {K : Type 0} {R : K → K → Ordering} {E : K → K → Bool} → IsTotalOrder R → IsAntisymmetric R → ((x y : K) → Decides (E x y) (x ≡ y)) → (x y : K) → E x y ≡ eq_by_cmp R x y
tested {R = R} {E = E} o same decides x y =
    let t = tied o same x y in
    same_from_decides (E x y) (is_eq (R x y)) (decides x y) (Decides-like (is_eq (R x y)) t.0 t.1 (Equal-is (R x y)))

-- ---- subscripts

filled_cmp-same : (a b : Bool) (s t : List ℕ) → is_canonic s ≡ a → is_canonic t ≡ b → filled_cmp a b s t ≡ Equal → s ≡ t
filled_cmp-same true true s t p q e = canonic_same s t p q (int_cmp-IsAntisymmetric _ _ e)
filled_cmp-same true false s t p q e = cc
filled_cmp-same false true s t p q e = cc
filled_cmp-same false false s t p q e = slice_cmp-IsAntisymmetric nat_cmp-IsAntisymmetric s t e

-- only equal subscripts tie
pub subscript_cmp-IsAntisymmetric : IsAntisymmetric subscript_cmp
subscript_cmp-IsAntisymmetric [] [] e = refl
subscript_cmp-IsAntisymmetric [] (c ∷ t) e = cc
subscript_cmp-IsAntisymmetric (b ∷ s) [] e = cc
subscript_cmp-IsAntisymmetric (b ∷ s) (c ∷ t) e = filled_cmp-same _ _ (b ∷ s) (c ∷ t) refl refl e

pub subscript_cmp-Equal : (s t : List ℕ) → (subscript_cmp s t ≡ Equal) ↔ (s ≡ t)
subscript_cmp-Equal = tied subscript_cmp_total subscript_cmp-IsAntisymmetric

pub bytes_eq-subscript_cmp : (s t : List ℕ) → bytes_eq s t ≡ eq_by_cmp subscript_cmp s t
bytes_eq-subscript_cmp = tested subscript_cmp_total subscript_cmp-IsAntisymmetric bytes_decides

-- the numbers of two canonic texts are equal where the texts are
canonic_tested : (s t : List ℕ) → is_canonic s ≡ true → is_canonic t ≡ true → int_eq (number_of s) (number_of t) ≡ bytes_eq s t
canonic_tested s t p q =
    same_from_decides (int_eq (number_of s) (number_of t)) (bytes_eq s t)
    (Decides-like (int_eq (number_of s) (number_of t)) (canonic_same s t p q) (ap number_of) (Decides-int_eq (number_of s) (number_of t))) (bytes_decides s t)

-- two tagged numbers are equal where the subscripts are
pub tags_tested : (s t : List ℕ) (p q : Option ℤ) (m n : ℤ) → IsTag s p → IsTag t q → p ≡ Some m → q ≡ Some n → int_eq m n ≡ bytes_eq s t
tags_tested s t p q m n h k d e = by (subst (IsTag s) d h) (subst (IsTag t) e k)
  where
    by : (is_canonic s ≡ true) × (m ≡ number_of s) → (is_canonic t ≡ true) × (n ≡ number_of t) → int_eq m n ≡ bytes_eq s t
    by a b = (λ i. int_eq (a.1 i) (b.1 i)) ∙ canonic_tested s t a.0 b.0

-- ---- lists of subscripts

-- only equal lists of subscripts tie
pub subscripts_cmp-IsAntisymmetric : IsAntisymmetric subscripts_cmp
subscripts_cmp-IsAntisymmetric ss ts e =
    slice_cmp-IsAntisymmetric subscript_cmp-IsAntisymmetric ss ts (sym (subscripts_cmp-slice ss ts) ∙ e)

pub subscripts_cmp-Equal : (ss ts : List (List ℕ)) → (subscripts_cmp ss ts ≡ Equal) ↔ (ss ≡ ts)
subscripts_cmp-Equal = tied subscripts_cmp_total subscripts_cmp-IsAntisymmetric

pub lists_eq-subscripts_cmp : (ss ts : List (List ℕ)) → pointwise bytes_eq ss ts ≡ eq_by_cmp subscripts_cmp ss ts
lists_eq-subscripts_cmp = tested subscripts_cmp_total subscripts_cmp-IsAntisymmetric lists_eq-Decides

-- ---- names

kind_cmp-IsAntisymmetric : IsAntisymmetric kind_cmp
kind_cmp-IsAntisymmetric true true e = refl
kind_cmp-IsAntisymmetric true false e = cc
kind_cmp-IsAntisymmetric false true e = cc
kind_cmp-IsAntisymmetric false false e = refl

-- a choice of two answers ties where both do
both_Equal : (r s : Ordering) → ordering_then r s ≡ Equal → (r ≡ Equal) × (s ≡ Equal)
both_Equal Less s e = absurd cc
both_Equal Equal s e = (refl, e)
both_Equal Greater s e = absurd cc

-- only equal names tie
pub name_cmp-IsAntisymmetric : IsAntisymmetric name_cmp
name_cmp-IsAntisymmetric m n e =
    let outer = both_Equal (kind_cmp m.global n.global) _ e in
    let inner = both_Equal (slice_cmp nat_cmp m.word n.word) _ outer.1 in
    let kinds = kind_cmp-IsAntisymmetric _ _ outer.0 in
    let words = slice_cmp-IsAntisymmetric nat_cmp-IsAntisymmetric m.word n.word inner.0 in
    let lists = subscripts_cmp-IsAntisymmetric m.subscripts n.subscripts inner.1 in
    λ i. record { global = kinds i; word = words i; subscripts = lists i }

pub name_cmp-Equal : (m n : Name) → (name_cmp m n ≡ Equal) ↔ (m ≡ n)
name_cmp-Equal = tied name_cmp_total name_cmp-IsAntisymmetric

pub names_eq-name_cmp : (m n : Name) → names_eq m n ≡ eq_by_cmp name_cmp m n
names_eq-name_cmp = tested name_cmp_total name_cmp-IsAntisymmetric names_eq-Decides

-- equal names are alike in their test
pub names_eq_equiv : IsEquivalence names_eq
names_eq_equiv = subst IsEquivalence (λ i m n. sym (names_eq-name_cmp m n) i) (eq_by_cmp_equiv name_cmp_total)
