-- Worked rows of the definitions. `45` is `-`, `48` to `57` the digits, `65` is `A`, `66` is `B`, `97` is `a`, `98` is `b`.
use Rattle.std.proofs.Common.{◌≡◌, ℕ, Bool, true, false, List, [], ◌∷◌, refl}
use Rattle.std.specs.declared.cmp.Ordering.TheVariants.{Less, Equal, Greater}
use Rattle.mj_subs.specs.Name.{Name, is_word, is_above, overlaps}
use Rattle.mj_subs.specs.Collation.{subscript_cmp, subscripts_cmp, name_cmp}

-- -1, 9, 10, 01, B, b stand in this order, and the empty text before them all
minus_one_nine : subscript_cmp (45 ∷ 49 ∷ []) (57 ∷ []) ≡ Less
minus_one_nine = refl

nine_ten : subscript_cmp (57 ∷ []) (49 ∷ 48 ∷ []) ≡ Less
nine_ten = refl

ten_zero_one : subscript_cmp (49 ∷ 48 ∷ []) (48 ∷ 49 ∷ []) ≡ Less
ten_zero_one = refl

zero_one_B : subscript_cmp (48 ∷ 49 ∷ []) (66 ∷ []) ≡ Less
zero_one_B = refl

B_b : subscript_cmp (66 ∷ []) (98 ∷ []) ≡ Less
B_b = refl

empty_minus_one : subscript_cmp [] (45 ∷ 49 ∷ []) ≡ Less
empty_minus_one = refl

empty_zero_one : subscript_cmp [] (48 ∷ 49 ∷ []) ≡ Less
empty_zero_one = refl

empty_empty : subscript_cmp [] [] ≡ Equal
empty_empty = refl

-- a number before any other text: 10 before 9a, and before -0
ten_nine_a : subscript_cmp (49 ∷ 48 ∷ []) (57 ∷ 97 ∷ []) ≡ Less
ten_nine_a = refl

minus_zero_ten : subscript_cmp (45 ∷ 48 ∷ []) (49 ∷ 48 ∷ []) ≡ Greater
minus_zero_ten = refl

-- -10 before -9, and a proper front first: b before ba
minus_ten_minus_nine : subscript_cmp (45 ∷ 49 ∷ 48 ∷ []) (45 ∷ 57 ∷ []) ≡ Less
minus_ten_minus_nine = refl

b_ba : subscript_cmp (98 ∷ []) (98 ∷ 97 ∷ []) ≡ Less
b_ba = refl

-- (1) before (1,2), (1,2) before (2), and () before (1)
one_one_two : subscripts_cmp ((49 ∷ []) ∷ []) ((49 ∷ []) ∷ (50 ∷ []) ∷ []) ≡ Less
one_one_two = refl

one_two_two : subscripts_cmp ((49 ∷ []) ∷ (50 ∷ []) ∷ []) ((50 ∷ []) ∷ []) ≡ Less
one_two_two = refl

none_one : subscripts_cmp [] ((49 ∷ []) ∷ []) ≡ Less
none_one = refl

-- the name with this kind, word and list of subscripts
abbrev name : Bool → List ℕ → List (List ℕ) → Name
name g w ss = record { global = g; word = w; subscripts = ss }

-- ^B before A, A before A(1), A(1) before AB
global_local : name_cmp (name true (66 ∷ []) []) (name false (65 ∷ []) []) ≡ Less
global_local = refl

name_node : name_cmp (name false (65 ∷ []) []) (name false (65 ∷ []) ((49 ∷ []) ∷ [])) ≡ Less
name_node = refl

node_word : name_cmp (name false (65 ∷ []) ((49 ∷ []) ∷ [])) (name false (65 ∷ 66 ∷ []) []) ≡ Less
node_word = refl

-- ^A is above ^A(1), which is above ^A(1,"x"); none is above itself, nor is A above ^A(1) or ^B above ^A(1)
above_node : is_above (name true (65 ∷ []) []) (name true (65 ∷ []) ((49 ∷ []) ∷ [])) ≡ true
above_node = refl

above_two : is_above (name true (65 ∷ []) ((49 ∷ []) ∷ [])) (name true (65 ∷ []) ((49 ∷ []) ∷ (120 ∷ []) ∷ [])) ≡ true
above_two = refl

above_itself : is_above (name true (65 ∷ []) ((49 ∷ []) ∷ [])) (name true (65 ∷ []) ((49 ∷ []) ∷ [])) ≡ false
above_itself = refl

above_kind : is_above (name false (65 ∷ []) []) (name true (65 ∷ []) ((49 ∷ []) ∷ [])) ≡ false
above_kind = refl

above_word : is_above (name true (66 ∷ []) []) (name true (65 ∷ []) ((49 ∷ []) ∷ [])) ≡ false
above_word = refl

above_sibling : is_above (name true (65 ∷ []) ((49 ∷ []) ∷ [])) (name true (65 ∷ []) ((50 ∷ []) ∷ (49 ∷ []) ∷ [])) ≡ false
above_sibling = refl

-- a node overlaps itself, what is above it and what is below it, and no sibling
overlap_itself : overlaps (name true (65 ∷ []) ((49 ∷ []) ∷ [])) (name true (65 ∷ []) ((49 ∷ []) ∷ [])) ≡ true
overlap_itself = refl

overlap_below : overlaps (name true (65 ∷ []) ((49 ∷ []) ∷ [])) (name true (65 ∷ []) []) ≡ true
overlap_below = refl

overlap_sibling : overlaps (name true (65 ∷ []) ((49 ∷ []) ∷ [])) (name true (65 ∷ []) ((50 ∷ []) ∷ [])) ≡ false
overlap_sibling = refl

overlap_kind : overlaps (name true (65 ∷ []) []) (name false (65 ∷ []) []) ≡ false
overlap_kind = refl

-- A, %, %1 and aB9 are words; the empty text, 1A, A% and A_B are none
words : (is_word (65 ∷ []) ≡ true) × (is_word (37 ∷ []) ≡ true) × (is_word (37 ∷ 49 ∷ []) ≡ true) × (is_word (97 ∷ 66 ∷ 57 ∷ []) ≡ true)
words = (refl, refl, refl, refl)

no_words : (is_word [] ≡ false) × (is_word (49 ∷ 65 ∷ []) ≡ false) × (is_word (65 ∷ 37 ∷ []) ≡ false) × (is_word (65 ∷ 95 ∷ 66 ∷ []) ≡ false)
no_words = (refl, refl, refl, refl)
