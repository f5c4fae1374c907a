-- The definitions of Number, computed at examples.
use Rattle.std.proofs.Common.{◌≡◌, pos, negsuc, true, false, [], Ok, Err, refl}
use Rattle.std.specs.Prelude.{codes}
use Rattle.std.specs.Fmt.{digits}
use Rattle.mj_text.specs.declared.fault.Fault.TheVariants.{Divide, Fraction, Range}
use Rattle.mj_num.specs.Number.{number_of, reading, is_canonic, canonic_text, sum_of, difference_of, product_of, quotient_of, remainder_of, exact_quotient_of, on_readings}

-- ---- readings

reads_signs : number_of (codes "--5") ≡ pos 5
reads_signs = refl

reads_mixed_signs : number_of (codes "+-+7x") ≡ negsuc 6
reads_mixed_signs = refl

reads_leading_zeros : number_of (codes "007") ≡ pos 7
reads_leading_zeros = refl

reads_minus_zero : number_of (codes "-0") ≡ pos 0
reads_minus_zero = refl

reads_to_a_point : number_of (codes "1.5") ≡ pos 1
reads_to_a_point = refl

reads_to_an_exponent : number_of (codes "1E5") ≡ pos 1
reads_to_an_exponent = refl

reads_empty : number_of [] ≡ pos 0
reads_empty = refl

reads_blank : number_of (codes " 1") ≡ pos 0
reads_blank = refl

reads_sign_alone : number_of (codes "-") ≡ pos 0
reads_sign_alone = refl

reads_letters : number_of (codes "--abc") ≡ pos 0
reads_letters = refl

reads_to_a_sign : number_of (codes "3-2") ≡ pos 3
reads_to_a_sign = refl

reads_greatest : reading (codes "-999999999999999999") ≡ Ok (negsuc 999999999999999998)
reads_greatest = refl

reads_above : reading (codes "1000000000000000000") ≡ Err Range
reads_above = refl

reads_long : reading (codes "-00000000000000000000000000042 km") ≡ Ok (negsuc 41)
reads_long = refl

-- ---- canonic texts

canonic_zero : is_canonic (codes "0") ≡ true
canonic_zero = refl

canonic_negative : is_canonic (codes "-70") ≡ true
canonic_negative = refl

canonic_eighteen : is_canonic (codes "999999999999999999") ≡ true
canonic_eighteen = refl

canonic_not_nineteen : is_canonic (codes "1000000000000000000") ≡ false
canonic_not_nineteen = refl

canonic_not_leading_zero : is_canonic (codes "01") ≡ false
canonic_not_leading_zero = refl

canonic_not_minus_zero : is_canonic (codes "-0") ≡ false
canonic_not_minus_zero = refl

canonic_not_fraction : is_canonic (codes "1.5") ≡ false
canonic_not_fraction = refl

canonic_not_plus : is_canonic (codes "+1") ≡ false
canonic_not_plus = refl

canonic_not_empty : is_canonic [] ≡ false
canonic_not_empty = refl

canonic_not_minus : is_canonic (codes "-") ≡ false
canonic_not_minus = refl

canonic_not_two_minus : is_canonic (codes "--1") ≡ false
canonic_not_two_minus = refl

writes_zero : canonic_text (pos 0) ≡ codes "0"
unfolding digits
writes_zero = refl

writes_negative : canonic_text (negsuc 406) ≡ codes "-407"
unfolding digits
writes_negative = refl

-- ---- arithmetic

sum_over : sum_of (pos 999999999999999999) (pos 1) ≡ Err Range
sum_over = refl

difference_low : difference_of (negsuc 999999999999999997) (pos 1) ≡ Ok (negsuc 999999999999999998)
difference_low = refl

product_over : product_of (pos 10000000000) (negsuc 9999999999) ≡ Err Range
product_over = refl

product_greatest : product_of (negsuc 999999998) (pos 1000000001) ≡ Ok (negsuc 999999999999999998)
product_greatest = refl

quotient_towards_zero : quotient_of (negsuc 6) (pos 2) ≡ Ok (negsuc 2)
quotient_towards_zero = refl

quotient_both_negative : quotient_of (negsuc 6) (negsuc 1) ≡ Ok (pos 3)
quotient_both_negative = refl

quotient_by_zero : quotient_of (pos 7) (pos 0) ≡ Err Divide
quotient_by_zero = refl

remainder_of_negative : remainder_of (negsuc 6) (pos 2) ≡ Ok (pos 1)
remainder_of_negative = refl

remainder_by_negative : remainder_of (pos 7) (negsuc 1) ≡ Ok (negsuc 0)
remainder_by_negative = refl

remainder_both_negative : remainder_of (negsuc 6) (negsuc 2) ≡ Ok (negsuc 0)
remainder_both_negative = refl

remainder_none : remainder_of (negsuc 5) (negsuc 2) ≡ Ok (pos 0)
remainder_none = refl

remainder_zero_by_negative : remainder_of (pos 0) (negsuc 2) ≡ Ok (pos 0)
remainder_zero_by_negative = refl

remainder_by_zero : remainder_of (pos 0) (pos 0) ≡ Err Divide
remainder_by_zero = refl

exact_whole : exact_quotient_of (negsuc 5) (pos 3) ≡ Ok (negsuc 1)
exact_whole = refl

exact_fraction : exact_quotient_of (negsuc 6) (pos 3) ≡ Err Fraction
exact_fraction = refl

exact_by_zero : exact_quotient_of (pos 0) (pos 0) ≡ Err Divide
exact_by_zero = refl

readings_come_first : on_readings exact_quotient_of (codes "1") (codes "9999999999999999999") ≡ Err Range
readings_come_first = refl

readings_of_texts : on_readings remainder_of (codes "-7 apples") (codes "+2") ≡ Ok (pos 1)
readings_of_texts = refl
