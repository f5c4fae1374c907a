-- The first line of some bytes.
use Rattle.std.proofs.Common.{◌≡◌, ◌≢◌, ◌∙◌, ◌+◌, ◌<◌, zero, suc, ℕ, true, false, cond, eqb, eqb-true, ne_eqb, eq-eqb, List, [], ◌∷◌, length, get_or, take, drop, refl, sym, ap, arith}
use Rattle.mj_gfile.specs.Listing.{begun_by, lines_of, unended}
use Rattle.std.proofs.Common.{◌-◌, add-one, length-take, length-drop}
use Rattle.std.proofs.lemmas.List.{take_all}

-- no byte 10 stands before place i
abbrev NoEnd : List ℕ → ℕ → Type 0
NoEnd bs i = (k : ℕ) → k < i → get_or bs k 0 ≢ 10

later : (c : ℕ) (cs : List ℕ) (i : ℕ) → NoEnd (c ∷ cs) (suc i) → NoEnd cs i
later c cs i none k h = none (suc k) (omega arith)

begun : (c : ℕ) (cs : List ℕ) → c ≢ 10 → lines_of (c ∷ cs) ≡ begun_by c (lines_of cs)
begun c cs ne = ap (λ b. cond b (([], true) ∷ lines_of cs) (begun_by c (lines_of cs))) (ne_eqb c 10 ne)

-- a line ends at the first byte 10
pub split_at_end : (bs : List ℕ) (i : ℕ) → i < length bs → get_or bs i 0 ≡ 10 → NoEnd bs i → lines_of bs ≡ (take i bs, true) ∷ lines_of (drop (suc i) bs)
split_at_end [] i h e none = absurd (omega arith)
split_at_end (c ∷ cs) zero h e none = ap (λ b. cond b (([], true) ∷ lines_of cs) (begun_by c (lines_of cs))) (eq-eqb c 10 e)
split_at_end (c ∷ cs) (suc i) h e none =
    begun c cs (none 0 (omega arith)) ∙ ap (begun_by c) (split_at_end cs i (omega arith) e (later c cs i none))

-- where there is no byte 10, there is no line that is ended
pub no_end : (bs : List ℕ) → NoEnd bs (length bs) → lines_of bs ≡ unended bs
no_end [] none = refl
no_end (c ∷ []) none = begun c [] (none 0 (omega arith))
no_end (c ∷ d ∷ cs) none = begun c (d ∷ cs) (none 0 (omega arith)) ∙ ap (begun_by c) (no_end (d ∷ cs) (later c (d ∷ cs) (length (d ∷ cs)) none))

-- what is behind a place of a list, as a slice has it
module _ (bs : List ℕ) (i : ℕ) (h : i < length bs) where
  rest_whole : take (length bs - (i + 1)) (drop (i + 1) bs) ≡ drop (i + 1) bs
  rest_whole = take_all (length bs - (i + 1)) (drop (i + 1) bs) (omega (arith, length-drop (i + 1) bs))

  pub first_line : eqb (get_or bs i 0) 10 ≡ true → NoEnd bs i → lines_of bs ≡ (take i bs, true) ∷ lines_of (take (length bs - (i + 1)) (drop (i + 1) bs))
  first_line e none =
      split_at_end bs i h (eqb-true (get_or bs i 0) 10 e) none
      ∙ ap (λ l. (take i bs, true) ∷ lines_of l) (ap (λ n. drop n bs) (sym (add-one i)) ∙ sym rest_whole)

  pub parts_of_line : length (take i bs) + length (take (length bs - (i + 1)) (drop (i + 1) bs)) + 1 ≡ length bs
  parts_of_line = simp (length-take, length-drop) (omega arith)

-- ---- slices without a byte

pub no_byte : (xs : List ℕ) → eqb (length xs) 0 ≡ true → xs ≡ []
no_byte [] e = refl
no_byte (x ∷ xs) e = absurd (let n = eqb-true (length (x ∷ xs)) 0 e in omega arith)

pub some_byte : (xs : List ℕ) → eqb (length xs) 0 ≡ false → xs ≡ [] → ⊥
some_byte [] e none = cc
some_byte (x ∷ xs) e none = cc
