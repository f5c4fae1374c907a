-- The definitions at worked rows: what each says is what a reader of the language expects.
use Rattle.std.proofs.Common.{◌≡◌, ℕ, List, length, ◌++◌, cond, nat_le, refl, ap, [], Ok, Err}
use Rattle.std.specs.Prelude.{codes}
use Rattle.std.specs.Fmt.{digits}
use Rattle.mj_text.specs.declared.fault.Fault.TheVariants.{Divide as DivideFault, Fraction, Range, Length}
use Rattle.mj_text.specs.declared.limit.Limit.TheVariants.{V1, V2}
use Rattle.mj_oper.specs.declared.op.Op.TheVariants.{Add, Multiply, Quotient, Remainder, Divide, Join, Is, IsNot}
use Rattle.mj_oper.specs.declared.op.TruthOp.TheVariants.{Equal, Greater, Contains, Follows, SortsAfter, And, Or}
use Rattle.mj_oper.specs.declared.op.UnaryOp.TheVariants.{Minus, Not}
use Rattle.mj_oper.specs.Operators.{binary_value, unary_value}

-- 2+3*4, from left to right
sum : binary_value V1 Add (codes "2") (codes "3") ≡ Ok (codes "5")
unfolding digits
sum = refl

product : binary_value V1 Multiply (codes "5") (codes "4") ≡ Ok (codes "20")
unfolding digits
product = refl

reading_stops_at_a_letter : binary_value V1 Add (codes "2x") (codes "3") ≡ Ok (codes "5")
unfolding digits
reading_stops_at_a_letter = refl

quotient_towards_0 : binary_value V1 Quotient (codes "-7") (codes "2") ≡ Ok (codes "-3")
unfolding digits
quotient_towards_0 = refl

remainder_above_0 : binary_value V1 Remainder (codes "-7") (codes "2") ≡ Ok (codes "1")
unfolding digits
remainder_above_0 = refl

remainder_below_0 : binary_value V1 Remainder (codes "7") (codes "-2") ≡ Ok (codes "-1")
unfolding digits
remainder_below_0 = refl

whole_division : binary_value V1 Divide (codes "-12") (codes "4") ≡ Ok (codes "-3")
unfolding digits
whole_division = refl

division_by_0 : binary_value V1 Quotient (codes "5") (codes "0") ≡ Err DivideFault
division_by_0 = refl

no_whole_number : binary_value V1 Divide (codes "1") (codes "2") ≡ Err Fraction
no_whole_number = refl

range_of_a_sum : binary_value V1 Add (codes "999999999999999999") (codes "1") ≡ Err Range
range_of_a_sum = refl

-- a reading out of range comes before a division by 0
range_first : binary_value V1 Divide (codes "1000000000000000000") (codes "0") ≡ Err Range
range_first = refl

join : binary_value V1 Join (codes "ab") (codes "c") ≡ Ok (codes "abc")
join = refl

-- 32,768 bytes are above the first limit and within the second one
join_above : (a b : List ℕ) → length (a ++ b) ≡ 32768 → binary_value V1 Join a b ≡ Err Length
join_above a b h = ap (λ n. cond (nat_le n 32767) (Ok (a ++ b)) (Err Length)) h

join_long : (a b : List ℕ) → length (a ++ b) ≡ 32768 → binary_value V2 Join a b ≡ Ok (a ++ b)
join_long a b h = ap (λ n. cond (nat_le n 1048576) (Ok (a ++ b)) (Err Length)) h

unequal : binary_value V1 (Is Equal) (codes "abc") (codes "0") ≡ Ok (codes "0")
unequal = refl

-- '(2>1) and 2'>1
not_greater : binary_value V1 (IsNot Greater) (codes "2") (codes "1") ≡ Ok (codes "0")
not_greater = refl

contains_it : binary_value V1 (Is Contains) (codes "banana") (codes "nan") ≡ Ok (codes "1")
contains_it = refl

contains_nothing : binary_value V1 (Is Contains) [] [] ≡ Ok (codes "1")
contains_nothing = refl

-- 10]9 by bytes and 10]]9 by value
by_bytes : binary_value V1 (Is Follows) (codes "10") (codes "9") ≡ Ok (codes "0")
by_bytes = refl

by_value : binary_value V1 (Is SortsAfter) (codes "10") (codes "9") ≡ Ok (codes "1")
by_value = refl

texts_after_numbers : binary_value V1 (Is SortsAfter) (codes "a") (codes "9") ≡ Ok (codes "1")
texts_after_numbers = refl

front_first : binary_value V1 (Is Follows) (codes "ab") (codes "a") ≡ Ok (codes "1")
front_first = refl

-- both sides of `&` are read, also behind a false one
and_reads_both : binary_value V1 (Is And) (codes "0") (codes "9999999999999999999") ≡ Err Range
and_reads_both = refl

or_of_truth_values : binary_value V1 (Is Or) (codes "") (codes "-2") ≡ Ok (codes "1")
or_of_truth_values = refl

not_a_text : unary_value Not (codes "a") ≡ Ok (codes "1")
not_a_text = refl

signs : unary_value Minus (codes "-+-5x") ≡ Ok (codes "-5")
unfolding digits
signs = refl

no_negative_0 : unary_value Minus (codes "a") ≡ Ok (codes "0")
unfolding digits
no_negative_0 = refl

not_out_of_range : unary_value Not (codes "9999999999999999999") ≡ Err Range
not_out_of_range = refl
