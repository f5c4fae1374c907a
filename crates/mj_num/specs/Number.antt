-- Numbers: what a text reads as, how a number is written, and whole-number arithmetic.
-- A text is the list of its bytes, a number a ℤ. `+` is byte 43, `-` is 45, and the digits are 48 to 57.
use Rattle.std.specs.Prelude.{ℕ, zero, suc, ◌+◌, ◌-◌, ◌*◌, ◌/◌, ◌^◌, ◌<◌, Bool, true, false, not, ◌&&◌, ◌==◌, nat_lt, if◌then◌else◌, List, [], ◌∷◌, length, ℤ, pos, negsuc, ◌+ℤ◌, ◌-ℤ◌, ◌*ℤ◌, neg_ℤ, ◌≤ℤ◌, ◌<ℤ◌, unsigned_abs, int_div, Result, Ok, Err}
use Rattle.std.specs.Char.{is_ascii_digit}
use Rattle.std.specs.List.{list_all}
use Rattle.std.specs.Fmt.{signed_decimal}
use Rattle.mj_text.specs.declared.fault.Fault.{Fault}
use Rattle.mj_text.specs.declared.fault.Fault.TheVariants.{Divide, Fraction, Range}

-- ---- reading

-- the number that stands before, `n`, continued by the digits at the front of the text
abbrev pub number_with_digits : ℕ → List ℕ → ℕ
number_with_digits n [] = n
number_with_digits n (c ∷ cs) = if is_ascii_digit c then number_with_digits (10 * n + (c - 48)) cs else n

-- The numeric reading of a text (ISO/IEC 11756:1999, 7.1.4, numeric interpretation of data; this profile: whole numbers
-- alone): behind a leading `+` it is that of the rest, behind a leading `-` the negative of that, and else the number
-- of the digits at the front, 0 without any.
abbrev pub number_of : List ℕ → ℤ
number_of [] = pos 0
number_of (c ∷ cs) = if c == 43 then number_of cs else (if c == 45 then neg_ℤ (number_of cs) else pos (number_with_digits 0 (c ∷ cs)))

-- ---- range

-- a number of the language: its magnitude is at most 10 ^ 18 - 1 (this profile)
abbrev pub IsInRange : ℤ → Type 0
IsInRange z = unsigned_abs z < 10 ^ 18

-- the test of `IsInRange`
abbrev pub is_in_range : ℤ → Bool
is_in_range z = nat_lt (unsigned_abs z) (10 ^ 18)

-- the number itself, or the fault RANGE for one that is out of range
abbrev pub ranged : ℤ → Result ℤ Fault
ranged z = if is_in_range z then Ok z else Err Range

-- what a text counts as where a number is wanted: its numeric reading, or RANGE
abbrev pub reading : List ℕ → Result ℤ Fault
reading text = ranged (number_of text)

-- ---- canonic texts

-- one to eighteen digits of which the first isn't `0`
abbrev pub is_magnitude : List ℕ → Bool
is_magnitude [] = false
is_magnitude (c ∷ cs) = not (c == 48) && list_all is_ascii_digit (c ∷ cs) && nat_lt (length cs) 18

-- A canonic text (this profile): `0`, or an optional `-` and one to eighteen digits of which the first isn't `0`.
abbrev pub is_canonic : List ℕ → Bool
is_canonic [] = false
is_canonic (c ∷ cs) = if c == 48 then length cs == 0 else (if c == 45 then is_magnitude cs else is_magnitude (c ∷ cs))

-- How a number is written (ISO/IEC 11756:1999, 7.1.4, numeric data values): its decimal digits with no leading zero,
-- after a `-` if it is negative.
abbrev pub canonic_text : ℤ → List ℕ
canonic_text z = signed_decimal z

-- ---- arithmetic (ISO/IEC 11756:1999, 7.2.1, arithmetic operators)

-- the number is 0
abbrev pub is_zero : ℤ → Bool
is_zero (pos n) = n == 0
is_zero (negsuc n) = false

-- a truth value: false where the number is 0 (ISO/IEC 11756:1999, 7.1.4, truth-value interpretation)
abbrev pub truth_of : ℤ → Bool
truth_of z = not (is_zero z)

-- a truth value as a number: 1 or 0
abbrev pub number_of_truth : Bool → ℤ
number_of_truth true = pos 1
number_of_truth false = pos 0

-- a divided by b, b not 0, and rounded towards 0
abbrev pub quotient : ℤ → ℤ → ℤ
quotient a b = int_div a b

-- a divided by b, b not 0, and rounded down
abbrev pub floor_quotient : ℤ → ℤ → ℤ
floor_quotient (pos a) (pos b) = pos (a / b)
floor_quotient (pos zero) (negsuc b) = pos 0
floor_quotient (pos (suc a)) (negsuc b) = negsuc (a / suc b)
floor_quotient (negsuc a) (pos b) = negsuc (a / b)
floor_quotient (negsuc a) (negsuc b) = pos (suc a / suc b)

-- what b leaves of a, b not 0: `a - b * floor(a / b)`, which is 0 or has the sign of b
abbrev pub remainder : ℤ → ℤ → ℤ
remainder a b = a -ℤ (b *ℤ floor_quotient a b)

-- r lies from 0 to d, and is not d
pub record IsUpTo (d r : ℤ) : Type 0 where
  pub above : pos 0 <ℤ d → (pos 0 ≤ℤ r) × (r <ℤ d)
  pub below : d <ℤ pos 0 → (d <ℤ r) × (r ≤ℤ pos 0)

-- the operators on two numbers, each with the fault that it ends by

-- `a + b`
abbrev pub sum_of : ℤ → ℤ → Result ℤ Fault
sum_of a b = ranged (a +ℤ b)

-- `a - b`
abbrev pub difference_of : ℤ → ℤ → Result ℤ Fault
difference_of a b = ranged (a -ℤ b)

-- `a * b`
abbrev pub product_of : ℤ → ℤ → Result ℤ Fault
product_of a b = ranged (a *ℤ b)

-- `a \ b`: DIVIDE for divisor 0
abbrev pub quotient_of : ℤ → ℤ → Result ℤ Fault
quotient_of a b = if is_zero b then Err Divide else ranged (quotient a b)

-- `a # b`: DIVIDE for divisor 0
abbrev pub remainder_of : ℤ → ℤ → Result ℤ Fault
remainder_of a b = if is_zero b then Err Divide else ranged (remainder a b)

-- `a / b` (this profile): DIVIDE for divisor 0, and FRACTION where b doesn't divide a
abbrev pub exact_quotient_of : ℤ → ℤ → Result ℤ Fault
exact_quotient_of a b = if is_zero b then Err Divide else (if is_zero (remainder a b) then ranged (quotient a b) else Err Fraction)

-- an operator on two texts: both are read, left first, before it is applied
abbrev pub on_readings : (ℤ → ℤ → Result ℤ Fault) → List ℕ → List ℕ → Result ℤ Fault
on_readings f s t = both (reading s) (reading t)
  where
    both : Result ℤ Fault → Result ℤ Fault → Result ℤ Fault
    both (Ok a) (Ok b) = f a b
    both (Ok a) (Err e) = Err e
    both (Err e) r = Err e
