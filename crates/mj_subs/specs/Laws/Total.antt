-- The orders of `Collation` are total.
use Rattle.std.proofs.Common.{◌≡◌, ℕ, Bool, true, false, List, [], ◌∷◌, ℤ, pos, refl, sym, ap, subst}
use Rattle.std.specs.declared.cmp.Ordering.{Ordering}
use Rattle.std.specs.declared.cmp.Ordering.TheVariants.{Less, Equal, Greater}
use Rattle.std.specs.Ordering.{nat_cmp, int_cmp, bool_cmp, ordering_then, on, then_cmp, flip_args}
use Rattle.std.specs.Cmp.{IsTotalOrder, bool_cmp_total}
use Rattle.std.specs.Cmp.Lexicographic.{slice_cmp}
use Rattle.std.proofs.lemmas.Cmp.{nat_cmp_total, int_cmp_total, on_total, then_total, back_total, lists_total, nat_list_cmp_total}
use Rattle.mj_num.specs.Number.{number_of, is_canonic}
use Rattle.mj_subs.specs.Name.{Name}
use Rattle.mj_subs.specs.Collation.{filled_cmp, subscript_cmp, subscripts_cmp, kind_cmp, name_cmp}

-- ---- subscripts: the order is that of a class, then a value, then a text

-- by what a filled subscript is ordered, where it is told whether it is a canonic number
abbrev filled_key : Bool → List ℕ → ℕ × ℤ × List ℕ
filled_key true s = (1, number_of s, [])
filled_key false s = (2, pos 0, s)

-- by what a subscript is ordered
abbrev key_of : List ℕ → ℕ × ℤ × List ℕ
key_of [] = (0, pos 0, [])
key_of (c ∷ s) = filled_key (is_canonic (c ∷ s)) (c ∷ s)

abbrev by_class : ℕ × ℤ × List ℕ → ℕ
by_class k = k.0

abbrev by_value : ℕ × ℤ × List ℕ → ℤ
by_value k = k.1

abbrev by_text : ℕ × ℤ × List ℕ → List ℕ
by_text k = k.2

abbrev key_cmp : ℕ × ℤ × List ℕ → ℕ × ℤ × List ℕ → Ordering
key_cmp = then_cmp (on by_class nat_cmp) (then_cmp (on by_value int_cmp) (on by_text (slice_cmp nat_cmp)))

key_cmp_total : IsTotalOrder key_cmp
key_cmp_total = then_total (on_total by_class nat_cmp_total) (then_total (on_total by_value int_cmp_total) (on_total by_text nat_list_cmp_total))

then_Equal : (r : Ordering) → r ≡ ordering_then r Equal
then_Equal Less = refl
then_Equal Equal = refl
then_Equal Greater = refl

filled_cmp-key : (a b : Bool) (s t : List ℕ) → filled_cmp a b s t ≡ key_cmp (filled_key a s) (filled_key b t)
filled_cmp-key true true s t = then_Equal (int_cmp (number_of s) (number_of t))
filled_cmp-key true false s t = refl
filled_cmp-key false true s t = refl
filled_cmp-key false false s t = refl

empty_first : (b : Bool) (t : List ℕ) → Less ≡ key_cmp (0, pos 0, []) (filled_key b t)
empty_first true t = refl
empty_first false t = refl

empty_before : (b : Bool) (s : List ℕ) → Greater ≡ key_cmp (filled_key b s) (0, pos 0, [])
empty_before true s = refl
empty_before false s = refl

subscript_cmp-key : (s t : List ℕ) → subscript_cmp s t ≡ key_cmp (key_of s) (key_of t)
subscript_cmp-key [] [] = refl
subscript_cmp-key [] (c ∷ t) = empty_first (is_canonic (c ∷ t)) (c ∷ t)
subscript_cmp-key (b ∷ s) [] = empty_before (is_canonic (b ∷ s)) (b ∷ s)
subscript_cmp-key (b ∷ s) (c ∷ t) = filled_cmp-key (is_canonic (b ∷ s)) (is_canonic (c ∷ t)) (b ∷ s) (c ∷ t)

-- subscripts are totally ordered
pub subscript_cmp_total : IsTotalOrder subscript_cmp
subscript_cmp_total = subst IsTotalOrder (λ i s t. sym (subscript_cmp-key s t) i) (on_total key_of key_cmp_total)

-- ---- lists of subscripts

pub subscripts_cmp-slice : (ss ts : List (List ℕ)) → subscripts_cmp ss ts ≡ slice_cmp subscript_cmp ss ts
subscripts_cmp-slice [] [] = refl
subscripts_cmp-slice [] (t ∷ ts) = refl
subscripts_cmp-slice (s ∷ ss) [] = refl
subscripts_cmp-slice (s ∷ ss) (t ∷ ts) = ap (ordering_then (subscript_cmp s t)) (subscripts_cmp-slice ss ts)

-- lists of subscripts are totally ordered
pub subscripts_cmp_total : IsTotalOrder subscripts_cmp
subscripts_cmp_total = subst IsTotalOrder (λ i ss ts. sym (subscripts_cmp-slice ss ts) i) (lists_total subscript_cmp_total)

-- ---- names

kind_cmp-back : (a b : Bool) → flip_args bool_cmp a b ≡ kind_cmp a b
kind_cmp-back true true = refl
kind_cmp-back true false = refl
kind_cmp-back false true = refl
kind_cmp-back false false = refl

kind_cmp_total : IsTotalOrder kind_cmp
kind_cmp_total = subst IsTotalOrder (λ i a b. kind_cmp-back a b i) (back_total bool_cmp_total)

abbrev by_kind : Name → Bool
by_kind n = n.global

abbrev by_word : Name → List ℕ
by_word n = n.word

abbrev by_subscripts : Name → List (List ℕ)
by_subscripts n = n.subscripts

-- names are totally ordered
pub name_cmp_total : IsTotalOrder name_cmp
name_cmp_total = then_total (on_total by_kind kind_cmp_total) (then_total (on_total by_word nat_list_cmp_total) (on_total by_subscripts subscripts_cmp_total))
