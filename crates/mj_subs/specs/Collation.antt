-- The order of subscripts, of lists of subscripts and of names.
use Rattle.std.specs.Prelude.{ℕ, Bool, true, false, List, [], ◌∷◌}
use Rattle.std.specs.declared.cmp.Ordering.{Ordering}
use Rattle.std.specs.declared.cmp.Ordering.TheVariants.{Less, Equal, Greater}
use Rattle.std.specs.Ordering.{nat_cmp, int_cmp, ordering_then}
use Rattle.std.specs.Cmp.Lexicographic.{slice_cmp}
use Rattle.mj_num.specs.Number.{number_of, is_canonic}
use Rattle.mj_subs.specs.Name.{Name}

-- two filled subscripts, of which it is told whether they are canonic numbers: numbers stand by value and before any
-- other text, other texts by bytes
abbrev pub filled_cmp : Bool → Bool → List ℕ → List ℕ → Ordering
filled_cmp true true s t = int_cmp (number_of s) (number_of t)
filled_cmp true false s t = Less
filled_cmp false true s t = Greater
filled_cmp false false s t = slice_cmp nat_cmp s t

-- how a subscript stands to another (7.1.5.11, the ordering sequence of $ORDER): the empty text first, then canonic
-- numbers by value, then all other texts by bytes, a proper front first
abbrev pub subscript_cmp : List ℕ → List ℕ → Ordering
subscript_cmp [] [] = Equal
subscript_cmp [] (c ∷ t) = Less
subscript_cmp (b ∷ s) [] = Greater
subscript_cmp (b ∷ s) (c ∷ t) = filled_cmp (is_canonic (b ∷ s)) (is_canonic (c ∷ t)) (b ∷ s) (c ∷ t)

-- how a list of subscripts stands to another: place by place, a proper front first
abbrev pub subscripts_cmp : List (List ℕ) → List (List ℕ) → Ordering
subscripts_cmp [] [] = Equal
subscripts_cmp [] (t ∷ ts) = Less
subscripts_cmp (s ∷ ss) [] = Greater
subscripts_cmp (s ∷ ss) (t ∷ ts) = ordering_then (subscript_cmp s t) (subscripts_cmp ss ts)

-- globals stand before locals (this profile)
abbrev pub kind_cmp : Bool → Bool → Ordering
kind_cmp true true = Equal
kind_cmp true false = Less
kind_cmp false true = Greater
kind_cmp false false = Equal

-- how a name stands to another (this profile): by kind, then by word in bytes, then by subscripts
abbrev pub name_cmp : Name → Name → Ordering
name_cmp m n =
    ordering_then (kind_cmp m.global n.global) (ordering_then (slice_cmp nat_cmp m.word n.word) (subscripts_cmp m.subscripts n.subscripts))
