-- Readings and canonic texts undo each other.
use Rattle.std.proofs.Common.{rules, ◌≡◌, ◌≢◌, ℕ, zero, suc, ◌+◌, ◌-◌, ◌*◌, ◌<◌, ◌≤◌, ◌^◌, ℤ, pos, negsuc, neg_ℤ, Bool, true, false, not, cond, ◌&&◌, eqb, List, [], ◌∷◌, length, get_or, drop, drop-cons, Ok, refl, sym, ap, subst, ◌∙◌, arith}
use Rattle.std.proofs.lemmas.Bool.{ne_eqb, eqb-true, eqb-false, lt-ltb, ltb-true, le-leb, leb-true, and_parts, and_from, not-true, not_from_false, true≢false, cond-false}
use Rattle.std.proofs.lemmas.Str.Parse.{IsNumeralModel, FoldsDigits, numerals_by_fold, digits_value_short}
use Rattle.std.proofs.lemmas.Fmt.{decimal_digit, digits_decimal, digits_value-decimal, decimal-digits_value, first_decimal, length-decimal-le, decimal_nonempty}
use Rattle.std.specs.Prelude.{unsigned_abs}
use Rattle.std.specs.Int.{IsInRange as IsBetween}
use Rattle.std.specs.Char.{is_ascii_digit}
use Rattle.std.specs.List.{list_all}
use Rattle.std.specs.Fmt.{decimal, signed_decimal}
use Rattle.std.proofs.lemmas.Int.{ints}
use Rattle.mj_text.specs.Kept.{IsWhole}
use Rattle.mj_num.specs.Number.{number_with_digits, number_of, IsInRange, is_in_range, reading, is_magnitude, is_canonic, canonic_text}

-- ---- digits

digit_passes : (c : ℕ) → IsBetween 48 57 c → is_ascii_digit c ≡ true
digit_passes c h = and_from _ _ (le-leb 48 c (omega arith)) (le-leb c 57 (omega arith))

number_with_digits-digit : (n c : ℕ) (cs : List ℕ) → IsBetween 48 57 c → number_with_digits n (c ∷ cs) ≡ number_with_digits (n * 10 + (c - 48)) cs
number_with_digits-digit n c cs h = ap (λ b. cond b (number_with_digits (10 * n + (c - 48)) cs) n) (digit_passes c h) ∙ ap (λ m. number_with_digits m cs) (omega arith)

folds : FoldsDigits number_with_digits
folds = record { empty = λ n. refl; more = number_with_digits-digit }

-- the texts of digits, and the number that such a text is
own : IsNumeralModel (λ ds. list_all is_ascii_digit ds ≡ true) (number_with_digits 0)
own = numerals_by_fold _ (search rules) number_with_digits folds

-- a digit is taken in
pub number_with_digits-drop : (n i : ℕ) (s : List ℕ) → i < length s → is_ascii_digit (get_or s i 0) ≡ true
    → number_with_digits n (drop i s) ≡ number_with_digits (10 * n + (get_or s i 0 - 48)) (drop (suc i) s)
number_with_digits-drop n i s within digit = rw (drop-cons s i 0, digit)

-- the digits that follow only raise a number
pub le_number_with_digits : (n : ℕ) (cs : List ℕ) → n ≤ number_with_digits n cs
le_number_with_digits n [] = omega arith
le_number_with_digits n (c ∷ cs) = by (is_ascii_digit c) (le_number_with_digits (10 * n + (c - 48)) cs)
  where
    by : (b : Bool) → 10 * n + (c - 48) ≤ number_with_digits (10 * n + (c - 48)) cs → n ≤ cond b (number_with_digits (10 * n + (c - 48)) cs) n
    by true h = omega arith
    by false h = omega arith

-- ---- magnitudes

digit_of_test : (c : ℕ) → is_ascii_digit c ≡ true → IsBetween 48 57 c
digit_of_test c h = let p = and_parts _ _ h in (leb-true 48 c p.0, leb-true c 57 p.1)

-- a text of digits reads as their number
pub number_of-digits : (ds : List ℕ) → list_all is_ascii_digit ds ≡ true → number_of ds ≡ pos (number_with_digits 0 ds)
number_of-digits [] h = refl
number_of-digits (c ∷ cs) h =
    let d = digit_of_test c (and_parts _ _ h).0 in
    rw (ne_eqb c 43 (λ e. omega arith), ne_eqb c 45 (λ e. omega arith))

-- what the test of a magnitude tells
pub record HasMagnitude (ds : List ℕ) : Type 0 where
  pub digits : list_all is_ascii_digit ds ≡ true
  pub nonempty : 0 < length ds
  pub leads : get_or ds 0 0 ≢ 48
  pub positive : 0 < number_with_digits 0 ds
  pub bounded : number_with_digits 0 ds < 10 ^ 18
  pub written : decimal (number_with_digits 0 ds) ≡ ds

pub magnitude_of : (ds : List ℕ) → is_magnitude ds ≡ true → HasMagnitude ds
magnitude_of [] h = absurd (true≢false (sym h))
magnitude_of (c ∷ cs) h =
    let parts = and_parts (not (eqb c 48) && list_all is_ascii_digit (c ∷ cs)) _ h in
    let front = and_parts (not (eqb c 48)) _ parts.0 in
    let leads : c ≢ 48 = eqb-false c 48 (not-true _ front.0) in
    let short : length (c ∷ cs) ≤ 18 = omega (arith, ltb-true (length cs) 18 parts.1) in
    let d = digit_of_test c (and_parts (is_ascii_digit c) _ front.1).0 in
    let bound : number_with_digits 0 (c ∷ cs) < 10 ^ 18 = digits_value_short own (c ∷ cs) 18 front.1 short in
    record {
      digits = front.1;
      nonempty = omega arith;
      leads = leads;
      positive = rw (number_with_digits-digit 0 c cs d) (omega (arith, le_number_with_digits (0 * 10 + (c - 48)) cs));
      bounded = bound;
      written = decimal-digits_value own (c ∷ cs) front.1 (omega arith) (λ e. absurd (leads e)) (omega arith);
    }

pub is_magnitude-from : (ds : List ℕ) → list_all is_ascii_digit ds ≡ true → 0 < length ds → get_or ds 0 0 ≢ 48 → length ds ≤ 18 → is_magnitude ds ≡ true
is_magnitude-from [] h some leads short = absurd (omega arith)
is_magnitude-from (c ∷ cs) h some leads short = and_from _ _ (and_from _ _ (not_from_false _ (ne_eqb c 48 leads)) h) (lt-ltb (length cs) 18 (omega arith))

-- a positive number is written as a magnitude
pub is_magnitude-decimal : (n : ℕ) → 0 < n → n < 10 ^ 18 → is_magnitude (decimal n) ≡ true
is_magnitude-decimal n some small =
    is_magnitude-from (decimal n) (digits_decimal own n (omega arith)) (decimal_nonempty n (omega arith))
    (λ e. omega (arith, first_decimal n some (omega arith))) (length-decimal-le 18 n (omega arith) small (omega arith))

-- ---- a number, written and read

reads_decimal : (n : ℕ) → n < 2 ^ 64 → number_of (decimal n) ≡ pos n
reads_decimal n h = number_of-digits (decimal n) (digits_decimal own n h) ∙ ap pos (digits_value-decimal own n h)

-- what is written of a number reads as it
pub number_of-canonic_text : (z : ℤ) → unsigned_abs z < 2 ^ 64 → number_of (canonic_text z) ≡ z
number_of-canonic_text (pos n) h = reads_decimal n h
number_of-canonic_text (negsuc n) h = ap neg_ℤ (reads_decimal (suc n) h)

pub is_in_range-from : (z : ℤ) → IsInRange z → is_in_range z ≡ true
is_in_range-from z h = lt-ltb (unsigned_abs z) (10 ^ 18) h

pub IsInRange-from : (z : ℤ) → is_in_range z ≡ true → IsInRange z
IsInRange-from z h = ltb-true (unsigned_abs z) (10 ^ 18) h

pub reading-canonic_text : (z : ℤ) → IsInRange z → reading (canonic_text z) ≡ Ok z
reading-canonic_text z h = rw (number_of-canonic_text z (omega arith), is_in_range-from z h)

-- what is written of a number is canonic
pub is_canonic-canonic_text : (z : ℤ) → IsInRange z → is_canonic (canonic_text z) ≡ true
is_canonic-canonic_text (pos zero) h = ap is_canonic (decimal_digit 0 (omega arith))
is_canonic-canonic_text (pos (suc n)) h = by (decimal (suc n)) (is_magnitude-decimal (suc n) (omega arith) h)
  where
    by : (ds : List ℕ) → is_magnitude ds ≡ true → is_canonic ds ≡ true
    by [] m = m
    by (c ∷ cs) m =
        let k = magnitude_of (c ∷ cs) m in
        let d = digit_of_test c (and_parts (is_ascii_digit c) _ k.digits).0 in
        cond-false (eqb c 48) _ _ (ne_eqb c 48 k.leads) ∙ cond-false (eqb c 45) _ _ (ne_eqb c 45 (λ e. omega arith)) ∙ m
is_canonic-canonic_text (negsuc n) h = is_magnitude-decimal (suc n) (omega arith) h

-- a canonic text is the one that is written of the number it reads as, which is in range
pub record IsWritten (text : List ℕ) : Type 0 where
  pub bounded : IsInRange (number_of text)
  pub written : canonic_text (number_of text) ≡ text

of_magnitude : (ds : List ℕ) → is_magnitude ds ≡ true → IsWritten ds
of_magnitude ds m =
    let k = magnitude_of ds m in
    let e = number_of-digits ds k.digits in
    record { bounded = rw e k.bounded; written = rw e k.written }

of_negative : (ds : List ℕ) → is_magnitude ds ≡ true → IsWritten (45 ∷ ds)
of_negative ds m =
    let k = magnitude_of ds m in
    by (number_with_digits 0 ds) k.positive k.bounded k.written (number_of-digits ds k.digits)
  where
    by : (n : ℕ) → 0 < n → n < 10 ^ 18 → decimal n ≡ ds → number_of ds ≡ pos n → IsWritten (45 ∷ ds)
    by zero some bound w e = absurd (omega arith)
    by (suc n) some bound w e = record { bounded = rw e bound; written = rw e (ap (λ l. 45 ∷ l) w) }

pub written_of-canonic : (text : List ℕ) → is_canonic text ≡ true → IsWritten text
written_of-canonic [] h = absurd (true≢false (sym h))
written_of-canonic (c ∷ cs) h = by (eqb c 48) (eqb c 45) (eqb-true c 48) (eqb-true c 45) h
  where
    zero_text : (d : ℕ) (ds : List ℕ) → d ≡ 48 → length ds ≡ 0 → IsWritten (d ∷ ds)
    zero_text d (x ∷ xs) e none = absurd (omega arith)
    zero_text d [] e none = subst (λ x. IsWritten (x ∷ [])) (sym e) (record { bounded = omega arith; written = decimal_digit 0 (omega arith) })

    by : (a b : Bool) → (a ≡ true → c ≡ 48) → (b ≡ true → c ≡ 45) → cond a (eqb (length cs) 0) (cond b (is_magnitude cs) (is_magnitude (c ∷ cs))) ≡ true → IsWritten (c ∷ cs)
    by true b p q h = zero_text c cs (p refl) (eqb-true (length cs) 0 h)
    by false true p q h = subst (λ x. IsWritten (x ∷ cs)) (sym (q refl)) (of_negative cs h)
    by false false p q h = of_magnitude (c ∷ cs) h

-- a canonic text is written of one number alone
pub canonic_text_injective : (y z : ℤ) → IsInRange y → IsInRange z → canonic_text y ≡ canonic_text z → y ≡ z
canonic_text_injective y z p q e = sym (number_of-canonic_text y (omega arith)) ∙ ap number_of e ∙ number_of-canonic_text z (omega arith)

-- canonic texts that read alike are alike
pub canonic_same : (s t : List ℕ) → is_canonic s ≡ true → is_canonic t ≡ true → number_of s ≡ number_of t → s ≡ t
canonic_same s t p q e = sym (written_of-canonic s p).written ∙ ap canonic_text e ∙ (written_of-canonic t q).written

pub canonic_text-number_of : (text : List ℕ) → is_canonic text ≡ true → canonic_text (number_of text) ≡ text
canonic_text-number_of text h = (written_of-canonic text h).written

pub IsInRange-canonic : (text : List ℕ) → is_canonic text ≡ true → IsInRange (number_of text)
IsInRange-canonic text h = (written_of-canonic text h).bounded

pub reading-canonic : (text : List ℕ) → is_canonic text ≡ true → reading text ≡ Ok (number_of text)
reading-canonic text h = rw (is_in_range-from (number_of text) (IsInRange-canonic text h))

-- a number is written in at most nineteen bytes, and in one at least
pub length-canonic_text : (z : ℤ) → IsInRange z → length (canonic_text z) ≤ 19
length-canonic_text (pos n) h = omega (arith, length-decimal-le 18 n (omega arith) h (omega arith))
length-canonic_text (negsuc n) h = omega (arith, length-decimal-le 18 (suc n) (omega arith) h (omega arith))

pub canonic_text_nonempty : (z : ℤ) → IsInRange z → 0 < length (canonic_text z)
canonic_text_nonempty (pos n) h = decimal_nonempty n (omega arith)
canonic_text_nonempty (negsuc n) h = omega arith

-- ---- a text that is kept as a number

pub IsInRange-whole : (z : ℤ) → IsWhole z → IsInRange z
IsInRange-whole (pos n) h = omega (arith, ints)
IsInRange-whole (negsuc n) h = omega (arith, ints)

pub IsWhole-from : (z : ℤ) → IsInRange z → IsWhole z
IsWhole-from (pos n) h = (omega (arith, ints), omega (arith, ints))
IsWhole-from (negsuc n) h = (omega (arith, ints), omega (arith, ints))

pub reading-kept : (text : List ℕ) (z : ℤ) → IsWhole z × (text ≡ signed_decimal z) → reading text ≡ Ok z
reading-kept text z h = ap reading h.1 ∙ reading-canonic_text z (IsInRange-whole z h.0)

pub is_canonic-kept : (text : List ℕ) (z : ℤ) → IsWhole z × (text ≡ signed_decimal z) → is_canonic text ≡ true
is_canonic-kept text z h = ap is_canonic h.1 ∙ is_canonic-canonic_text z (IsInRange-whole z h.0)
