-- What each operator gives: a text, seen as the list of its bytes, or the fault that stands in its place.
-- ISO/IEC 11756:1999, 7.2 (binary operators) and 7.1.4 (unary operators); the faults are this profile's.
use Rattle.std.specs.Prelude.{ℕ, Bool, true, false, not, ◌&&◌, ◌||◌, List, [], ◌∷◌, ◌++◌, ℤ, neg_ℤ, int_lt, Result, Ok, Err}
use Rattle.std.specs.Str.{bytes_eq}
use Rattle.std.specs.Ordering.{is_gt, nat_cmp}
use Rattle.std.specs.Cmp.Lexicographic.{slice_cmp}
use Rattle.std.specs.Option.{is_some}
use Rattle.mj_text.specs.Limit.{within_limit}
use Rattle.mj_text.specs.declared.limit.Limit.{Limit}
use Rattle.mj_text.specs.declared.fault.Fault.{Fault}
use Rattle.mj_text.specs.Failing.{then_value}
use Rattle.mj_text.specs.Find.{first_place}
use Rattle.mj_num.specs.Number.{reading, canonic_text, truth_of, sum_of, difference_of, product_of, quotient_of, remainder_of, exact_quotient_of}
use Rattle.mj_oper.specs.declared.op.Op.{Op}
use Rattle.mj_oper.specs.declared.op.Op.TheVariants.{Add, Subtract, Multiply, Quotient, Remainder, Divide, Join, Is, IsNot}
use Rattle.mj_oper.specs.declared.op.TruthOp.{TruthOp}
use Rattle.mj_oper.specs.declared.op.TruthOp.TheVariants.{Equal, Less, Greater, Contains, Follows, SortsAfter, And, Or}
use Rattle.mj_oper.specs.declared.op.UnaryOp.{UnaryOp}
use Rattle.mj_oper.specs.declared.op.UnaryOp.TheVariants.{Plus, Minus, Not}
use Rattle.mj_subs.specs.Collation.{subscript_cmp}

-- the numeric readings of both sides, the left one first, and what follows from them
abbrev pub on_numbers : {A : Type 0} → (ℤ → ℤ → Result A Fault) → List ℕ → List ℕ → Result A Fault
on_numbers f a b = then_value (reading a) (λ m. then_value (reading b) (λ n. f m n))

-- a number as a text: its canonic text
abbrev pub number_text : Result ℤ Fault → Result (List ℕ) Fault
number_text r = then_value r (λ z. Ok (canonic_text z))

-- whether what a truth operator says holds: `[` where b stands somewhere in a; `]` where a comes after b by bytes, a proper
-- front coming first. `&` and `!` read both sides, whatever the first one is.
abbrev pub holds : TruthOp → List ℕ → List ℕ → Result Bool Fault
holds Equal a b = Ok (bytes_eq a b)
holds Less a b = on_numbers (λ m n. Ok (int_lt m n)) a b
holds Greater a b = on_numbers (λ m n. Ok (int_lt n m)) a b
holds Contains a b = Ok (is_some (first_place b a))
holds Follows a b = Ok (is_gt (slice_cmp nat_cmp a b))
holds SortsAfter a b = Ok (is_gt (subscript_cmp a b))
holds And a b = on_numbers (λ m n. Ok (truth_of m && truth_of n)) a b
holds Or a b = on_numbers (λ m n. Ok (truth_of m || truth_of n)) a b

-- the truth value of a text: false where its numeric reading is 0 (ISO/IEC 11756:1999, 7.1.4)
abbrev pub truth_value : List ℕ → Result Bool Fault
truth_value a = then_value (reading a) (λ m. Ok (truth_of m))

-- a truth value as a text: 1 or 0
abbrev pub truth_text : Bool → List ℕ
truth_text true = 49 ∷ []
truth_text false = 48 ∷ []

-- what a binary operator gives of its left and its right side, where texts have this limit. `_` gives the bytes of both, one after the other; more than a
-- text may have are LENGTH
abbrev pub binary_value : Limit → Op → List ℕ → List ℕ → Result (List ℕ) Fault
binary_value limit Add a b = number_text (on_numbers sum_of a b)
binary_value limit Subtract a b = number_text (on_numbers difference_of a b)
binary_value limit Multiply a b = number_text (on_numbers product_of a b)
binary_value limit Quotient a b = number_text (on_numbers quotient_of a b)
binary_value limit Remainder a b = number_text (on_numbers remainder_of a b)
binary_value limit Divide a b = number_text (on_numbers exact_quotient_of a b)
binary_value limit Join a b = within_limit limit (a ++ b)
binary_value limit (Is t) a b = then_value (holds t a b) (λ h. Ok (truth_text h))
binary_value limit (IsNot t) a b = then_value (holds t a b) (λ h. Ok (truth_text (not h)))

-- what a unary operator gives of the value behind it
abbrev pub unary_value : UnaryOp → List ℕ → Result (List ℕ) Fault
unary_value Plus a = number_text (reading a)
unary_value Minus a = number_text (then_value (reading a) (λ m. Ok (neg_ℤ m)))
unary_value Not a = then_value (truth_value a) (λ h. Ok (truth_text (not h)))
