-- A line of a routine is cut at its first colon, since no word has one.
use Rattle.std.proofs.Common.{◌≡◌, ℕ, suc, ◌+◌, ◌-◌, Bool, true, false, cond, ◌&&◌, ◌||◌, eqb, eqb-true, List, [], ◌∷◌, ◌++◌, length, take, drop, get_or, drop-cons, Option, Some, None, refl, sym, ap, subst, ◌∙◌, append_assoc, length-append, decimal, arith}
use Rattle.std.proofs.Math.Seq.{take-append_seam, drop-append_seam}
use Rattle.std.proofs.lemmas.List.{take_all, length-drop, take-append-drop}
use Rattle.std.proofs.lemmas.List.Quantifiers.{position-Some}
use Rattle.std.proofs.lemmas.Iterator.Adapters.{position_from-zero}
use Rattle.std.specs.List.{list_all, position, position_from}
use Rattle.std.specs.Prelude.{nat_lt}
use Rattle.std.specs.Char.{is_ascii_alphabetic, is_ascii_alphanumeric}
use Rattle.mj_subs.specs.Name.{is_word}
use Rattle.mj_dialogue.specs.Commands.{IsSpot, spot_text, is_colon}

-- ---- no colon in a word

both_true : (a b : Bool) → (a && b) ≡ true → (a ≡ true) × (b ≡ true)
both_true true b e = (refl, e)
both_true false b e = absurd cc

-- a byte that passes a test that a colon doesn't
not_colon : (t : ℕ → Bool) (c : ℕ) → t 58 ≡ false → t c ≡ true → is_colon c ≡ false
not_colon t c out is = by (eqb c 58) refl
  where
    by : (b : Bool) → eqb c 58 ≡ b → b ≡ false
    by true e = let h : t c ≡ t 58 = ap t (eqb-true c 58 e) in absurd cc
    by false e = refl

-- no byte is a colon
abbrev HasNone : List ℕ → Type 0
HasNone [] = Unit {0}
HasNone (c ∷ cs) = (is_colon c ≡ false) × HasNone cs

none_of : (l : List ℕ) → list_all is_ascii_alphanumeric l ≡ true → HasNone l
none_of [] is = tt
none_of (c ∷ l) is =
    let p = both_true (is_ascii_alphanumeric c) (list_all is_ascii_alphanumeric l) is in
    (not_colon is_ascii_alphanumeric c refl p.0, none_of l p.1)

word_has_none : (l : List ℕ) → is_word l ≡ true → HasNone l
word_has_none [] h = tt
word_has_none (c ∷ cs) h =
    let p = both_true ((is_ascii_alphabetic c || eqb c 37) && list_all is_ascii_alphanumeric cs) (nat_lt (length cs) 31) h in
    let q = both_true (is_ascii_alphabetic c || eqb c 37) (list_all is_ascii_alphanumeric cs) p.0 in
    (not_colon (λ b. is_ascii_alphabetic b || eqb b 37) c refl q.0, none_of cs q.1)

-- ---- the first colon

first_at : (n : ℕ) (routine rest : List ℕ) → HasNone routine → position_from is_colon n (routine ++ 58 ∷ rest) ≡ Some (n + length routine)
first_at n [] rest h = let e : n ≡ n + 0 = omega arith in ap (λ (m : ℕ). Some m) e
first_at n (c ∷ cs) rest h =
    let e : (n + 1) + length cs ≡ n + suc (length cs) = omega arith in
    ap (λ (b : Bool). cond b (Some n) (position_from is_colon (n + 1) (cs ++ 58 ∷ rest))) h.0
    ∙ first_at (n + 1) cs rest h.1
    ∙ ap (λ (m : ℕ). Some m) e

first_colon : (routine rest : List ℕ) → is_word routine ≡ true → position is_colon (routine ++ 58 ∷ rest) ≡ Some (length routine)
first_colon routine rest word =
    let e : 0 + length routine ≡ length routine = omega arith in
    position_from-zero is_colon (routine ++ 58 ∷ rest) ∙ first_at 0 routine rest (word_has_none routine word) ∙ ap (λ (m : ℕ). Some m) e

some_same : (o : Option ℕ) (m n : ℕ) → o ≡ Some m → o ≡ Some n → m ≡ n
some_same o m n e f = cc

-- bytes without a colon are no line of a routine
pub no_colon : (bytes routine : List ℕ) (line : ℕ) → position is_colon bytes ≡ None → IsSpot routine line → ¬ (bytes ≡ spot_text routine line)
no_colon bytes routine line none spot is =
    let first : position is_colon bytes ≡ Some (length routine) = ap (position is_colon) is ∙ first_colon routine (decimal line) spot.0 in
    absurd cc

drop_next : (front cs : List ℕ) (c : ℕ) → drop (length front + 1) (front ++ c ∷ cs) ≡ cs
drop_next front cs c =
    let h : (front ++ c ∷ []) ++ cs ≡ front ++ c ∷ cs = append_assoc front (c ∷ []) cs in
    subst (λ (l : List ℕ). drop (length front + 1) l ≡ cs) h
    (subst (λ (n : ℕ). drop n ((front ++ c ∷ []) ++ cs) ≡ cs) (length-append front (c ∷ [])) (drop-append_seam (front ++ c ∷ []) cs))

-- what is behind the byte at a place
abbrev pub behind : List ℕ → ℕ → List ℕ
behind bytes k = take (length bytes - (k + 1)) (drop (k + 1) bytes)

behind-drop : (bytes : List ℕ) (k : ℕ) → behind bytes k ≡ drop (k + 1) bytes
behind-drop bytes k = take_all (length bytes - (k + 1)) (drop (k + 1) bytes) (omega (arith, length-drop (k + 1) bytes))

-- the first colon of a line of a routine stands behind the routine, and before the number
pub cut : (bytes routine : List ℕ) (k line : ℕ) → position is_colon bytes ≡ Some k → IsSpot routine line → bytes ≡ spot_text routine line
    → (take k bytes ≡ routine) × (behind bytes k ≡ decimal line)
cut bytes routine k line some spot is =
    let first : position is_colon bytes ≡ Some (length routine) = ap (position is_colon) is ∙ first_colon routine (decimal line) spot.0 in
    let at : k ≡ length routine = some_same (position is_colon bytes) k (length routine) some first in
    let front : take k bytes ≡ routine =
    ap (λ (n : ℕ). take n bytes) at ∙ ap (λ (l : List ℕ). take (length routine) l) is ∙ take-append_seam routine (58 ∷ decimal line) in
    let rest : drop (k + 1) bytes ≡ decimal line =
    ap (λ (n : ℕ). drop (n + 1) bytes) at ∙ ap (λ (l : List ℕ). drop (length routine + 1) l) is ∙ drop_next routine (decimal line) 58 in
    (front, behind-drop bytes k ∙ rest)

-- bytes are what is before their first colon, the colon, and what is behind it
pub joined : (bytes routine : List ℕ) (k line : ℕ) → position is_colon bytes ≡ Some k → routine ≡ take k bytes → behind bytes k ≡ decimal line → bytes ≡ spot_text routine line
joined bytes routine k line some front rest =
    let at = position-Some is_colon bytes k 0 some in
    let colon : get_or bytes k 0 ≡ 58 = eqb-true (get_or bytes k 0) 58 at.1 in
    let next : suc k ≡ k + 1 = omega arith in
    sym (take-append-drop k bytes)
    ∙ ap (λ (l : List ℕ). take k bytes ++ l) (drop-cons bytes k 0 at.0)
    ∙ ap (λ (b : ℕ). take k bytes ++ b ∷ drop (suc k) bytes) colon
    ∙ ap (λ (n : ℕ). take k bytes ++ 58 ∷ drop n bytes) next
    ∙ ap (λ (l : List ℕ). take k bytes ++ 58 ∷ l) (sym (behind-drop bytes k) ∙ rest)
    ∙ ap (λ (l : List ℕ). l ++ 58 ∷ decimal line) (sym front)
