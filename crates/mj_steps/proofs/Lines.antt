-- Where the lines of a file end.
use Rattle.std.specs.Prelude.{◌==◌}
use Rattle.std.proofs.Common.{◌≡◌, ℕ, suc, zero, ◌+◌, ◌-◌, ◌<◌, ◌≤◌, Bool, true, false, not, List, [], ◌∷◌, ◌++◌, length, take, drop, refl, ap, sym, ◌∙◌, subst, arith, Option, Some, None, ltb}
use Rattle.std.proofs.lemmas.Bool.{ltb-true, ltb-false, eqb-true}
use Rattle.std.proofs.lemmas.List.{take_all, length-drop}
use Rattle.std.specs.Prelude.{cond, position}
use Rattle.std.specs.List.{position_or_len}
use Rattle.mj_steps.specs.Steps.{is_line_end, lines_of, with_front}

-- no byte ends a line
abbrev HasNoEnd : List ℕ → Type 0
HasNoEnd [] = Unit {0}
HasNoEnd (b ∷ bs) = (is_line_end b ≡ false) × HasNoEnd bs

-- the lines from a byte on, by what it is
abbrev lines_on : Bool → ℕ → List ℕ → List (List ℕ)
lines_on e b bs = elim e [ true ↦ [] ∷ lines_of bs | false ↦ with_front b (lines_of bs) ]

lines_by : (b : ℕ) (bs : List ℕ) (e : Bool) → is_line_end b ≡ e → lines_of (b ∷ bs) ≡ lines_on e b bs
lines_by b bs e h = ap (λ (x : Bool). lines_on x b bs) h

-- up to a line's end
lines_cut : (xs ys : List ℕ) → HasNoEnd xs → lines_of (xs ++ 10 ∷ ys) ≡ xs ∷ lines_of ys
lines_cut [] ys h = refl
lines_cut (b ∷ bs) ys h = lines_by b (bs ++ 10 ∷ ys) false h.0 ∙ ap (with_front b) (lines_cut bs ys h.1)

-- a last line without its end
lines_last : (b : ℕ) (bs : List ℕ) → HasNoEnd (b ∷ bs) → lines_of (b ∷ bs) ≡ (b ∷ bs) ∷ []
lines_last b [] h = lines_by b [] false h.0
lines_last b (c ∷ cs) h = lines_by b (c ∷ cs) false h.0 ∙ ap (with_front b) (lines_last c cs h.1)

-- how many bytes stand before the first line's end, from a byte on
abbrev count_on : Bool → List ℕ → ℕ
count_on e bs = cond (not e) (1 + position_or_len is_line_end bs) 0

one_more : (n : ℕ) → 1 + n ≡ suc n
one_more n = omega arith

before_on : (b : ℕ) (bs : List ℕ) (e : Bool) → is_line_end b ≡ e → HasNoEnd (take (position_or_len is_line_end bs) bs) → HasNoEnd (take (count_on e bs) (b ∷ bs))
before_on b bs true h g = tt
before_on b bs false h g =
    let P : ℕ → Type 0 = λ n. HasNoEnd (take n (b ∷ bs)) in
    subst P (sym (one_more (position_or_len is_line_end bs))) (h, g)

-- none of the bytes before the first line's end is one
before_end : (bs : List ℕ) → HasNoEnd (take (position_or_len is_line_end bs) bs)
before_end [] = tt
before_end (b ∷ bs) = before_on b bs (is_line_end b) refl (before_end bs)

cut_on : (b : ℕ) (bs : List ℕ) (e : Bool) → is_line_end b ≡ e
    → (position_or_len is_line_end bs < length bs → bs ≡ take (position_or_len is_line_end bs) bs ++ 10 ∷ drop (position_or_len is_line_end bs + 1) bs)
    → count_on e bs < length (b ∷ bs) → (b ∷ bs) ≡ take (count_on e bs) (b ∷ bs) ++ 10 ∷ drop (count_on e bs + 1) (b ∷ bs)
cut_on b bs true h g l = ap (λ (x : ℕ). x ∷ bs) (eqb-true b 10 h)
cut_on b bs false h g l =
    let n : ℕ = position_or_len is_line_end bs in
    let P : ℕ → ℕ → Type 0 = λ i j. (b ∷ bs) ≡ take i (b ∷ bs) ++ 10 ∷ drop j (b ∷ bs) in
    let less : n < length bs = omega (arith, l) in
    let i : suc n ≡ 1 + n = omega arith in
    let j : suc (n + 1) ≡ 1 + n + 1 = omega arith in
    subst (λ (x : ℕ). P x (1 + n + 1)) i (subst (λ (x : ℕ). P (suc n) x) j (ap (λ (xs : List ℕ). b ∷ xs) (g less)))

-- the first line's end cuts the bytes
cut_at_end : (bs : List ℕ) → position_or_len is_line_end bs < length bs → bs ≡ take (position_or_len is_line_end bs) bs ++ 10 ∷ drop (position_or_len is_line_end bs + 1) bs
cut_at_end [] l = absurd (omega (arith, l))
cut_at_end (b ∷ bs) l = cut_on b bs (is_line_end b) refl (cut_at_end bs) l

abbrev found_on : Bool → ℕ → Option ℕ
found_on e n = cond e (Some n) None

none_on : (e : Bool) (n : ℕ) → found_on e n ≡ None → e ≡ false
none_on true n h = cc
none_on false n h = refl

some_on : (e : Bool) (n k : ℕ) → found_on e n ≡ Some k → (e ≡ true) × (n ≡ k)
some_on true n k h = (refl, cc)
some_on false n k h = cc

pub not_empty : (n : ℕ) → false ≡ (n == 0) → 0 < n
not_empty zero h = absurd (let P : Bool → Type 0 = λ b. elim b [ true ↦ ⊥ | false ↦ Unit {0} ] in subst P h tt)
not_empty (suc n) h = omega arith

-- with no line's end left the bytes are the last line
pub last_line : (bs : List ℕ) → 0 < length bs → position is_line_end bs ≡ None → lines_of bs ≡ bs ∷ lines_of (take (length bs - length bs) (drop (length bs) bs))
last_line [] l h = absurd (omega (arith, l))
last_line (b ∷ bs) l h =
    let n : ℕ = position_or_len is_line_end (b ∷ bs) in
    let far : length (b ∷ bs) ≤ n = ltb-false n (length (b ∷ bs)) (none_on (ltb n (length (b ∷ bs))) n h) in
    let P : List ℕ → Type 0 = λ xs. HasNoEnd xs in
    let all : HasNoEnd (b ∷ bs) = subst P (take_all n (b ∷ bs) far) (before_end (b ∷ bs)) in
    let zero_left : length (b ∷ bs) - length (b ∷ bs) ≡ 0 = omega arith in
    lines_last b bs all ∙ ap (λ (k : ℕ). (b ∷ bs) ∷ lines_of (take k (drop (length (b ∷ bs)) (b ∷ bs)))) (sym zero_left)

-- what stands before the first line's end is the first line
pub line_before : (bs : List ℕ) (k : ℕ) → position is_line_end bs ≡ Some k → lines_of bs ≡ take k bs ∷ lines_of (take (length bs - (k + 1)) (drop (k + 1) bs))
line_before bs k h =
    let n : ℕ = position_or_len is_line_end bs in
    let both : (ltb n (length bs) ≡ true) × (n ≡ k) = some_on (ltb n (length bs)) n k h in
    let less : n < length bs = ltb-true n (length bs) both.0 in
    let rest : take (length bs - (n + 1)) (drop (n + 1) bs) ≡ drop (n + 1) bs = take_all (length bs - (n + 1)) (drop (n + 1) bs) (omega (arith, length-drop (n + 1) bs)) in
    let P : ℕ → Type 0 = λ i. lines_of bs ≡ take i bs ∷ lines_of (take (length bs - (i + 1)) (drop (i + 1) bs)) in
    subst P both.1 (
    ap lines_of (cut_at_end bs less)
    ∙ lines_cut (take n bs) (drop (n + 1) bs) (before_end bs)
    ∙ ap (λ (xs : List ℕ). take n bs ∷ lines_of xs) (sym rest))
