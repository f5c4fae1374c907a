-- Where the lines of a file end.
use Rattle.std.proofs.Common.{◌≡◌, ◌≢◌, ℕ, zero, suc, ◌+◌, ◌-◌, ◌<◌, ◌≤◌, Bool, true, false, ◌&&◌, not, List, [], ◌∷◌, ◌++◌, length, take, drop, get_or, refl, ap, sym, ◌∙◌, subst, arith, Option, Some, None, ltb}
use Rattle.std.proofs.lemmas.Bool.{ltb-true, ltb-false, eqb-true, ne_eqb}
use Rattle.std.proofs.lemmas.List.{take_all, length-drop}
use Rattle.std.specs.Prelude.{◌==◌, cond, position}
use Rattle.std.specs.List.{position_or_len}
use Rattle.mj_ast.specs.Routines.{lines_of, with_front, ends_here}
use Rattle.mj_rou.specs.File.{without_return, is_newline}

-- no byte is 10
abbrev pub HasNoNewline : List ℕ → Type 0
HasNoNewline [] = Unit {0}
HasNoNewline (b ∷ bs) = ((b == 10) ≡ false) × HasNoNewline bs

-- the lines from a byte on, by what it is
abbrev lines_on : Bool → Bool → ℕ → List ℕ → List (List ℕ)
lines_on e f b bs = elim e [ true ↦ [] ∷ lines_of bs | false ↦ elim f [ true ↦ lines_of bs | false ↦ with_front b (lines_of bs) ] ]

lines_by : (b : ℕ) (bs : List ℕ) (e f : Bool) → (b == 10) ≡ e → (b == 13 && ends_here bs) ≡ f → lines_of (b ∷ bs) ≡ lines_on e f b bs
lines_by b bs e f h g = ap (λ (x : Bool). lines_on x (b == 13 && ends_here bs) b bs) h ∙ ap (λ (x : Bool). lines_on e x b bs) g

and_false : (e f : Bool) → f ≡ false → (e && f) ≡ false
and_false true f h = h
and_false false f h = refl

-- the last byte before a newline
last_cut : (b : ℕ) (ys : List ℕ) (f : Bool) → (b == 10) ≡ false → (b == 13) ≡ f → lines_of (b ∷ 10 ∷ ys) ≡ without_return (b ∷ []) ∷ lines_of ys
last_cut b ys true h g =
    lines_by b (10 ∷ ys) false true h (ap (λ (x : Bool). x && true) g)
    ∙ ap (λ (x : Bool). cond x [] (b ∷ []) ∷ lines_of ys) (sym g)
last_cut b ys false h g =
    lines_by b (10 ∷ ys) false false h (ap (λ (x : Bool). x && true) g)
    ∙ ap (λ (x : Bool). cond x [] (b ∷ []) ∷ lines_of ys) (sym g)

-- up to a newline
pub lines_cut : (xs ys : List ℕ) → HasNoNewline xs → lines_of (xs ++ 10 ∷ ys) ≡ without_return xs ∷ lines_of ys
lines_cut [] ys h = refl
lines_cut (b ∷ []) ys h = last_cut b ys (b == 13) h.0 refl
lines_cut (b ∷ c ∷ cs) ys h =
    lines_by b ((c ∷ cs) ++ 10 ∷ ys) false false h.0 (and_false (b == 13) (c == 10) h.1.0)
    ∙ ap (with_front b) (lines_cut (c ∷ cs) ys h.1)

-- a last line without its newline
pub lines_last : (b : ℕ) (bs : List ℕ) → HasNoNewline (b ∷ bs) → lines_of (b ∷ bs) ≡ (b ∷ bs) ∷ []
lines_last b [] h = lines_by b [] false false h.0 (and_false (b == 13) false refl)
lines_last b (c ∷ cs) h =
    lines_by b (c ∷ cs) false false h.0 (and_false (b == 13) (c == 10) h.1.0)
    ∙ ap (with_front b) (lines_last c cs h.1)

-- how many bytes stand before the first newline, from a byte on
abbrev count_on : Bool → List ℕ → ℕ
count_on e bs = cond (not e) (1 + position_or_len is_newline bs) 0

one_more : (n : ℕ) → 1 + n ≡ suc n
one_more n = omega arith

before_on : (b : ℕ) (bs : List ℕ) (e : Bool) → (b == 10) ≡ e → HasNoNewline (take (position_or_len is_newline bs) bs) → HasNoNewline (take (count_on e bs) (b ∷ bs))
before_on b bs true h g = tt
before_on b bs false h g =
    let P : ℕ → Type 0 = λ n. HasNoNewline (take n (b ∷ bs)) in
    subst P (sym (one_more (position_or_len is_newline bs))) (h, g)

-- none of the bytes before the first newline is one
pub before_newline : (bs : List ℕ) → HasNoNewline (take (position_or_len is_newline bs) bs)
before_newline [] = tt
before_newline (b ∷ bs) = before_on b bs (b == 10) refl (before_newline bs)

cut_on : (b : ℕ) (bs : List ℕ) (e : Bool) → (b == 10) ≡ e → (position_or_len is_newline bs < length bs →
    bs ≡ take (position_or_len is_newline bs) bs ++ 10 ∷ drop (position_or_len is_newline bs + 1) bs)
    → count_on e bs < length (b ∷ bs) → (b ∷ bs) ≡ take (count_on e bs) (b ∷ bs) ++ 10 ∷ drop (count_on e bs + 1) (b ∷ bs)
cut_on b bs true h g l = ap (λ (x : ℕ). x ∷ bs) (eqb-true b 10 h)
cut_on b bs false h g l =
    let n : ℕ = position_or_len is_newline bs in
    let P : ℕ → ℕ → Type 0 = λ i j. (b ∷ bs) ≡ take i (b ∷ bs) ++ 10 ∷ drop j (b ∷ bs) in
    let less : n < length bs = omega (arith, l) in
    let i : suc n ≡ 1 + n = omega arith in
    let j : suc (n + 1) ≡ 1 + n + 1 = omega arith in
    subst (λ (x : ℕ). P x (1 + n + 1)) i (subst (λ (x : ℕ). P (suc n) x) j (ap (λ (xs : List ℕ). b ∷ xs) (g less)))

-- the first newline cuts the bytes
pub cut_at_newline : (bs : List ℕ) → position_or_len is_newline bs < length bs → bs ≡ take (position_or_len is_newline bs) bs ++ 10 ∷ drop (position_or_len is_newline bs + 1) bs
cut_at_newline [] l = absurd (omega (arith, l))
cut_at_newline (b ∷ bs) l = cut_on b bs (b == 10) refl (cut_at_newline bs) l

-- a byte 13 at the end is left out
pub return_left_out : (xs : List ℕ) (n : ℕ) → length xs ≡ suc n → get_or xs n 0 ≡ 13 → take n xs ≡ without_return xs
return_left_out [] n e h = absurd (omega (arith, e))
return_left_out (x ∷ []) zero e h = ap (λ (b : ℕ). cond (b == 13) [] (b ∷ [])) (sym h) ∙ refl
return_left_out (x ∷ []) (suc n) e h = absurd (omega (arith, e))
return_left_out (x ∷ y ∷ ys) zero e h = absurd (omega (arith, e))
return_left_out (x ∷ y ∷ ys) (suc n) e h = ap (λ (bs : List ℕ). x ∷ bs) (return_left_out (y ∷ ys) n (omega (arith, e)) h)

-- any other one stays
pub others_stay : (xs : List ℕ) (n : ℕ) → length xs ≡ suc n → get_or xs n 0 ≢ 13 → xs ≡ without_return xs
others_stay [] n e h = absurd (omega (arith, e))
others_stay (x ∷ []) zero e h = ap (λ (b : Bool). cond b [] (x ∷ [])) (sym (ne_eqb x 13 h))
others_stay (x ∷ []) (suc n) e h = absurd (omega (arith, e))
others_stay (x ∷ y ∷ ys) zero e h = absurd (omega (arith, e))
others_stay (x ∷ y ∷ ys) (suc n) e h = ap (λ (bs : List ℕ). x ∷ bs) (others_stay (y ∷ ys) n (omega (arith, e)) h)

abbrev found_on : Bool → ℕ → Option ℕ
found_on e n = cond e (Some n) None

none_on : (e : Bool) (n : ℕ) → found_on e n ≡ None → e ≡ false
none_on true n h = cc
none_on false n h = refl

some_on : (e : Bool) (n k : ℕ) → found_on e n ≡ Some k → (e ≡ true) × (n ≡ k)
some_on true n k h = (refl, cc)
some_on false n k h = cc

-- with no newline left the bytes are the last line
pub last_line : (bs : List ℕ) → 0 < length bs → position is_newline bs ≡ None → lines_of bs ≡ bs ∷ lines_of (take (length bs - length bs) (drop (length bs) bs))
last_line [] l h = absurd (omega (arith, l))
last_line (b ∷ bs) l h =
    let n : ℕ = position_or_len is_newline (b ∷ bs) in
    let far : length (b ∷ bs) ≤ n = ltb-false n (length (b ∷ bs)) (none_on (ltb n (length (b ∷ bs))) n h) in
    let P : List ℕ → Type 0 = λ xs. HasNoNewline xs in
    let all : HasNoNewline (b ∷ bs) = subst P (take_all n (b ∷ bs) far) (before_newline (b ∷ bs)) in
    let zero_left : length (b ∷ bs) - length (b ∷ bs) ≡ 0 = omega arith in
    lines_last b bs all ∙ ap (λ (k : ℕ). (b ∷ bs) ∷ lines_of (take k (drop (length (b ∷ bs)) (b ∷ bs)))) (sym zero_left)

-- what stands before the first newline is the first line
pub line_before : (bs : List ℕ) (k : ℕ) → position is_newline bs ≡ Some k → lines_of bs ≡ without_return (take k bs) ∷ lines_of (take (length bs - (k + 1)) (drop (k + 1) bs))
line_before bs k h =
    let n : ℕ = position_or_len is_newline bs in
    let both : (ltb n (length bs) ≡ true) × (n ≡ k) = some_on (ltb n (length bs)) n k h in
    let less : n < length bs = ltb-true n (length bs) both.0 in
    let rest : take (length bs - (n + 1)) (drop (n + 1) bs) ≡ drop (n + 1) bs = take_all (length bs - (n + 1)) (drop (n + 1) bs) (omega (arith, length-drop (n + 1) bs)) in
    let P : ℕ → Type 0 = λ i. lines_of bs ≡ without_return (take i bs) ∷ lines_of (take (length bs - (i + 1)) (drop (i + 1) bs)) in
    subst P both.1 (
    ap lines_of (cut_at_newline bs less)
    ∙ lines_cut (take n bs) (drop (n + 1) bs) (before_newline bs)
    ∙ ap (λ (xs : List ℕ). without_return (take n bs) ∷ lines_of xs) (sym rest))

pub not_empty : (n : ℕ) → false ≡ (n == 0) → 0 < n
not_empty zero h = absurd (let P : Bool → Type 0 = λ b. elim b [ true ↦ ⊥ | false ↦ Unit {0} ] in subst P h tt)
not_empty (suc n) h = omega arith

pub is_empty_list : (xs : List ℕ) → true ≡ (length xs == 0) → xs ≡ without_return xs
is_empty_list [] h = refl
is_empty_list (x ∷ xs) h = let e : length (x ∷ xs) ≡ 0 = eqb-true (length (x ∷ xs)) 0 (sym h) in absurd (omega (arith, e))
