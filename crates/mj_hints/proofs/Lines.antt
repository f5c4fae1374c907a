-- The lines of a text, and of one in which a line is empty.
use Rattle.std.proofs.Common.{◌≡◌, ℕ, zero, suc, ◌+◌, ◌-◌, ◌<◌, ◌≤◌, Bool, true, false, List, [], ◌∷◌, ◌++◌, length, take, drop, get_or, set, refl, ap, sym, ◌∙◌, subst, arith, Option, Some, None, ltb, cond, append_assoc, length-append}
use Rattle.std.proofs.lemmas.Bool.{ltb-true}
use Rattle.std.proofs.lemmas.List.{take_all, length-drop}
use Rattle.std.proofs.Math.Seq.{set-append_seam}
use Rattle.std.specs.Prelude.{position}
use Rattle.std.specs.List.{position_or_len}
use Rattle.mj_ast.specs.Routines.{lines_of}
use Rattle.mj_rou.specs.File.{without_return, is_newline}
use Rattle.mj_rou.proofs.Lines.{HasNoNewline, lines_cut, before_newline, cut_at_newline, last_line}
use Rattle.mj_hints.specs.Refusals.{IsOneLine, IsCutBehind, IsEmptied, line_at, only_line}

-- ---- one line

-- bytes without a newline, and an end behind them
one_line : (xs : List ℕ) → HasNoNewline xs → IsOneLine xs
one_line xs h behind = ap lines_of (append_assoc xs (10 ∷ []) behind) ∙ lines_cut xs behind h

-- bytes without a newline are the only line
pub only_one : (bs : List ℕ) → position is_newline bs ≡ None → lines_of bs ≡ only_line bs
only_one [] h = refl
only_one (b ∷ bs) h =
    let some : 0 < length (b ∷ bs) = omega arith in
    let none_left : length (b ∷ bs) - length (b ∷ bs) ≡ 0 = omega arith in
    last_line (b ∷ bs) some h ∙ ap (λ (k : ℕ). (b ∷ bs) ∷ lines_of (take k (drop (length (b ∷ bs)) (b ∷ bs)))) none_left

abbrev found_on : Bool → ℕ → Option ℕ
found_on e n = cond e (Some n) None

some_on : (e : Bool) (n k : ℕ) → found_on e n ≡ Some k → (e ≡ true) × (n ≡ k)
some_on true n k h = (refl, cc)
some_on false n k h = cc

-- the first newline of some bytes
pub cut_one : (bs : List ℕ) (k : ℕ) → position is_newline bs ≡ Some k → IsOneLine (take k bs)
cut_one bs k h =
    let n : ℕ = position_or_len is_newline bs in
    let both : (ltb n (length bs) ≡ true) × (n ≡ k) = some_on (ltb n (length bs)) n k h in
    let P : ℕ → Type 0 = λ i. IsOneLine (take i bs) in
    subst P both.1 (one_line (take n bs) (before_newline bs))

pub cut_all : (bs : List ℕ) (k : ℕ) → position is_newline bs ≡ Some k → bs ≡ (take k bs ++ 10 ∷ []) ++ take (length bs - (k + 1)) (drop (k + 1) bs)
cut_all bs k h =
    let n : ℕ = position_or_len is_newline bs in
    let both : (ltb n (length bs) ≡ true) × (n ≡ k) = some_on (ltb n (length bs)) n k h in
    let less : n < length bs = ltb-true n (length bs) both.0 in
    let rest : take (length bs - (n + 1)) (drop (n + 1) bs) ≡ drop (n + 1) bs = take_all (length bs - (n + 1)) (drop (n + 1) bs) (omega (arith, length-drop (n + 1) bs)) in
    let P : ℕ → Type 0 = λ i. bs ≡ (take i bs ++ 10 ∷ []) ++ take (length bs - (i + 1)) (drop (i + 1) bs) in
    subst P both.1 (cut_at_newline bs less ∙ sym (append_assoc (take n bs) (10 ∷ []) (drop (n + 1) bs)) ∙ ap (λ (xs : List ℕ). (take n bs ++ 10 ∷ []) ++ xs) (sym rest))

-- the first line, of bytes that go on behind it
pub first_cut : (bytes line behind shown : List ℕ) → IsOneLine line → bytes ≡ (line ++ 10 ∷ []) ++ behind → shown ≡ without_return line → lines_of bytes ≡ shown ∷ lines_of behind
first_cut bytes line behind shown one all e = ap lines_of all ∙ one behind ∙ ap (λ (xs : List ℕ). xs ∷ lines_of behind) (sym e)

-- and of bytes that don't
pub first_only : (bytes : List ℕ) → 0 < length bytes → lines_of bytes ≡ only_line bytes
    → lines_of bytes ≡ bytes ∷ lines_of (take (length bytes - length bytes) (drop (length bytes) bytes))
first_only [] some h = absurd (omega (arith, some))
first_only (b ∷ bs) some h =
    let none_left : length (b ∷ bs) - length (b ∷ bs) ≡ 0 = omega arith in
    h ∙ ap (λ (k : ℕ). (b ∷ bs) ∷ lines_of (take k (drop (length (b ∷ bs)) (b ∷ bs)))) (sym none_left)

-- ---- the bytes of so many lines

pub cut_none : (bytes : List ℕ) → IsCutBehind 0 bytes [] bytes
cut_none bytes = record { cut = refl; lines = []; whole = λ behind. refl; count = refl }

-- one line more
pub cut_more : (place : ℕ) (bytes front rest line behind : List ℕ) → IsCutBehind place bytes front rest → IsOneLine line → rest ≡ (line ++ 10 ∷ []) ++ behind
    → IsCutBehind (place + 1) bytes (front ++ (line ++ 10 ∷ [])) behind
cut_more place bytes front rest line behind c one h = record {
  cut = c.cut ∙ ap (λ (xs : List ℕ). front ++ xs) h ∙ sym (append_assoc front (line ++ 10 ∷ []) behind);
  lines = c.lines ++ without_return line ∷ [];
  whole = λ more.
      ap lines_of (append_assoc front (line ++ 10 ∷ []) more) ∙ c.whole ((line ++ 10 ∷ []) ++ more)
      ∙ ap (λ (xs : List (List ℕ)). c.lines ++ xs) (one more) ∙ sym (append_assoc c.lines (without_return line ∷ []) (lines_of more));
  count = length-append c.lines (without_return line ∷ []) ∙ ap (λ (n : ℕ). n + 1) c.count;
}

-- the lines of all
pub cut_lines : (place : ℕ) (bytes front rest : List ℕ) → (c : IsCutBehind place bytes front rest) → lines_of bytes ≡ c.lines ++ lines_of rest
cut_lines place bytes front rest c = ap lines_of c.cut ∙ c.whole rest

only_few : (rest : List ℕ) → length (only_line rest) ≤ 1
only_few [] = omega arith
only_few (b ∷ bs) = omega arith

-- there are no more than these, and one behind them
pub few_lines : (place : ℕ) (bytes front rest : List ℕ) → IsCutBehind place bytes front rest → lines_of rest ≡ only_line rest → length (lines_of bytes) ≤ place + 1
few_lines place bytes front rest c h =
    let all : length (lines_of bytes) ≡ length c.lines + length (only_line rest) =
    ap length (cut_lines place bytes front rest c) ∙ length-append c.lines (lines_of rest) ∙ ap (λ (xs : List (List ℕ)). length c.lines + length xs) h in
    omega (arith, all, only_few rest, c.count)

-- there are these alone
pub no_more : (place : ℕ) (bytes front rest : List ℕ) → IsCutBehind place bytes front rest → length rest ≡ 0 → length (lines_of bytes) ≤ place
no_more place bytes front [] c h =
    let all : length (lines_of bytes) ≡ length c.lines + 0 = ap length (cut_lines place bytes front [] c) ∙ length-append c.lines [] in
    omega (arith, all, c.count)
no_more place bytes front (b ∷ bs) c h = absurd (omega (arith, h))

take_front : (front rest : List ℕ) → take (length front) (front ++ rest) ≡ front
take_front [] rest = refl
take_front (x ∷ xs) rest = ap (λ (ys : List ℕ). x ∷ ys) (take_front xs rest)

-- the bytes before them, by the length of all
pub cut_taken : (place : ℕ) (bytes front rest : List ℕ) → IsCutBehind place bytes front rest → IsCutBehind place bytes (take (length bytes - length rest) bytes) rest
cut_taken place bytes front rest c =
    let n : length bytes - length rest ≡ length front = omega (arith, ap length c.cut ∙ length-append front rest) in
    let e : take (length bytes - length rest) bytes ≡ front = ap (λ (k : ℕ). take k bytes) n ∙ ap (λ (xs : List ℕ). take (length front) xs) c.cut ∙ take_front front rest in
    let P : List ℕ → Type 0 = λ xs. IsCutBehind place bytes xs rest in
    subst P (sym e) c

-- ---- a line that is empty

set_past : (xs : List (List ℕ)) (i : ℕ) (v : List ℕ) → length xs ≤ i → set xs i v ≡ xs
set_past [] i v h = refl
set_past (x ∷ xs) zero v h = absurd (omega (arith, h))
set_past (x ∷ xs) (suc i) v h = ap (λ (ys : List (List ℕ)). x ∷ ys) (set_past xs i v (omega (arith, h)))

get_past : (xs : List (List ℕ)) (i : ℕ) → length xs ≤ i → get_or xs i [] ≡ []
get_past [] i h = refl
get_past (x ∷ xs) zero h = absurd (omega (arith, h))
get_past (x ∷ xs) (suc i) h = get_past xs i (omega (arith, h))

get_seam : (xs ys : List (List ℕ)) (y : List ℕ) → get_or (xs ++ y ∷ ys) (length xs) [] ≡ y
get_seam [] ys y = refl
get_seam (x ∷ xs) ys y = get_seam xs ys y

pub emptied_at : (place : ℕ) (bytes front rest line behind : List ℕ) → IsCutBehind place bytes front rest → lines_of rest ≡ line ∷ lines_of behind
    → IsEmptied place bytes ((front ++ 10 ∷ []) ++ behind)
emptied_at place bytes front rest line behind c h =
    let old : lines_of bytes ≡ c.lines ++ line ∷ lines_of behind = cut_lines place bytes front rest c ∙ ap (λ (xs : List (List ℕ)). c.lines ++ xs) h in
    let new : lines_of ((front ++ 10 ∷ []) ++ behind) ≡ c.lines ++ [] ∷ lines_of behind = ap lines_of (append_assoc front (10 ∷ []) behind) ∙ c.whole (10 ∷ behind) in
    new ∙ sym (ap (λ (xs : List (List ℕ)). set xs place []) old ∙ ap (λ (i : ℕ). set (c.lines ++ line ∷ lines_of behind) i []) (sym c.count)
    ∙ set-append_seam c.lines line (lines_of behind) [])

pub emptied_none : (place : ℕ) (bytes text : List ℕ) → length (lines_of bytes) ≤ place → text ≡ bytes → IsEmptied place bytes text
emptied_none place bytes text h e = ap lines_of e ∙ sym (set_past (lines_of bytes) place [] h)

-- ---- a line at a place

pub line_there : (place : ℕ) (bytes front rest line behind : List ℕ) → IsCutBehind place bytes front rest → lines_of rest ≡ line ∷ lines_of behind → line ≡ line_at place bytes
line_there place bytes front rest line behind c h =
    let old : lines_of bytes ≡ c.lines ++ line ∷ lines_of behind = cut_lines place bytes front rest c ∙ ap (λ (xs : List (List ℕ)). c.lines ++ xs) h in
    sym (ap (λ (xs : List (List ℕ)). get_or xs place []) old ∙ ap (λ (i : ℕ). get_or (c.lines ++ line ∷ lines_of behind) i []) (sym c.count)
    ∙ get_seam c.lines (lines_of behind) line)

pub no_line : (place : ℕ) (bytes : List ℕ) → length (lines_of bytes) ≤ place → [] ≡ line_at place bytes
no_line place bytes h = sym (get_past (lines_of bytes) place h)

pub no_line_at : (place : ℕ) (bytes : List ℕ) → length (lines_of bytes) ≤ place → take (length bytes - length bytes) (drop (length bytes) bytes) ≡ line_at place bytes
no_line_at place bytes h =
    let none_left : length bytes - length bytes ≡ 0 = omega arith in
    ap (λ (k : ℕ). take k (drop (length bytes) bytes)) none_left ∙ no_line place bytes h

-- the text in which the line is empty, as it was put together
pub emptied_in : (place : ℕ) (bytes front rest line behind text : List ℕ) → IsCutBehind place bytes front rest → lines_of rest ≡ line ∷ lines_of behind
    → text ≡ (front ++ 10 ∷ []) ++ behind → IsEmptied place bytes text
emptied_in place bytes front rest line behind text c h e =
    let P : List ℕ → Type 0 = λ xs. IsEmptied place bytes xs in
    subst P (sym e) (emptied_at place bytes front rest line behind c h)
