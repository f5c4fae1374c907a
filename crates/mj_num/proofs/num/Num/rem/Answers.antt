use Rattle.std.proofs.Common.{◌≡◌, ◌<◌, ◌^◌, ℤ, pos, negsuc, zero, suc, ◌+ℤ◌, ◌<ℤ◌, true, false, cond, ◌⊎◌, ⊎_elim, Err, sym, ap, ◌∙◌, arith, to_z, of_z, w64}
use Rattle.std.proofs.lemmas.Bool.{true≢false}
use Rattle.std.proofs.lemmas.Int.{to_z-of_z, ints, fits_signed_from_abs}
use Rattle.std.specs.Prelude.{int_lt}
use Rattle.std.specs.Int.{int_rem_euclid}
use lib.Signed.{mag}
use Rattle.mj_text.specs.declared.fault.Fault.TheVariants.{Divide}
use Rattle.mj_num.specs.Number.{ranged, is_zero, IsInRange, remainder, remainder_of}
use Rattle.mj_num.proofs.Division.{remainder-positive_divisor, remainder-whole, remainder-negative_divisor, IsInRange-remainder, remainder_of_lies}
use Rattle.mj_num.proofs.num.Num.rem.Goals as goal

-- what the code's casts make of a number
abbrev cast : ℤ → ℤ
cast z = to_z w64 (of_z w64 z)

cast-number : (z : ℤ) → IsInRange z → cast z ≡ z
cast-number z h = to_z-of_z w64 z (fits_signed_from_abs w64 z (omega arith))

below_zero : (d : ℤ) → int_lt d (pos 0) ≡ true → d <ℤ pos 0
below_zero d h = grind (arith, ints)

above_zero : (d : ℤ) → int_lt d (pos 0) ≡ false → is_zero d ≡ false → pos 0 <ℤ d
above_zero (pos zero) h nz = absurd (true≢false nz)
above_zero (pos (suc n)) h nz = omega (arith, ints)
above_zero (negsuc n) h nz = absurd (true≢false h)

given : (a d : ℤ) → is_zero d ≡ false → ranged (remainder a d) ≡ remainder_of a d
given a d nz = ap (λ b. cond b (Err Divide) (ranged (remainder a d))) (sym nz)

moved : (a d r : ℤ) → IsInRange a → IsInRange d → is_zero d ≡ false → r ≡ int_rem_euclid (cast a) (cast d) → mag r < 2 ^ 63
    → int_lt (cast d) (pos 0) ≡ true → (of_z w64 r ≡ 0 → ⊥) → ranged (cast (cast r +ℤ cast d)) ≡ remainder_of a d
moved a d r ha hd nz e small low ne =
    let ca = cast-number a ha in
    let cd = cast-number d hd in
    let cr : cast r ≡ r = to_z-of_z w64 r (record { sfits = small }) in
    let below : d <ℤ pos 0 = below_zero d (sym (ap (λ z. int_lt z (pos 0)) cd) ∙ low) in
    let is : int_rem_euclid a d ≡ r = (λ i. int_rem_euclid (sym ca i) (sym cd i)) ∙ sym e in
    let rem : remainder a d ≡ r +ℤ d = remainder-negative_divisor a d below (λ z. ne (ap (of_z w64) (sym is ∙ z))) ∙ ap (λ k. k +ℤ d) is in
    let out : cast (cast r +ℤ cast d) ≡ remainder a d =
    ap cast ((λ i. cr i +ℤ cd i) ∙ sym rem) ∙ cast-number (remainder a d) (IsInRange-remainder a d nz hd) in
    ap ranged out ∙ given a d nz

kept : (a d r : ℤ) → IsInRange a → IsInRange d → is_zero d ≡ false → r ≡ int_rem_euclid (cast a) (cast d) → mag r < 2 ^ 63
    → ((int_lt (cast d) (pos 0) ≡ true) × (of_z w64 r ≡ 0)) ⊎ (int_lt (cast d) (pos 0) ≡ false) → ranged (cast r) ≡ remainder_of a d
kept a d r ha hd nz e small which =
    let ca = cast-number a ha in
    let cd = cast-number d hd in
    let cr : cast r ≡ r = to_z-of_z w64 r (record { sfits = small }) in
    let is : int_rem_euclid a d ≡ r = (λ i. int_rem_euclid (sym ca i) (sym cd i)) ∙ sym e in
    let rem : remainder a d ≡ r =
    ⊎_elim
    (λ l. let none : pos 0 ≡ r = sym (ap (to_z w64) l.1) ∙ cr in
    remainder-whole a d (below_zero d (sym (ap (λ z. int_lt z (pos 0)) cd) ∙ l.0)) (is ∙ sym none) ∙ none)
    (λ h. remainder-positive_divisor a d (above_zero d (sym (ap (λ z. int_lt z (pos 0)) cd) ∙ h) nz) ∙ is)
    which in
    ap ranged (cr ∙ sym rem) ∙ given a d nz

pub returns-then-left-ne0 : goal.returns-then-left-ne0
returns-then-left-ne0 c =
    let nz = ap is_zero c.other.view_is ∙ sym c.is_zero.ensures ∙ c.if-is_zero.false in
    let is = c.new.ensures
    ∙ moved c.self.inside.value c.other.inside.value c.rem_euclid-left.result c.self.invariant c.other.invariant nz c.rem_euclid-left.ensures.value c.rem_euclid-left.type_inv c.if-other-lt0.true
    c.if-left-ne0.true
    ∙ (λ i. remainder_of (c.self.view_is i) (c.other.view_is i)) in
    record { value = is; place = remainder_of_lies c.args.self c.args.other c.new.result is }

pub returns-else-other-lt0 : goal.returns-else-other-lt0
returns-else-other-lt0 c =
    let nz = ap is_zero c.other.view_is ∙ sym c.is_zero.ensures ∙ c.if-is_zero.false in
    let is = c.new-else-other-lt0.ensures
    ∙ kept c.self.inside.value c.other.inside.value c.rem_euclid-left.result c.self.invariant c.other.invariant nz c.rem_euclid-left.ensures.value c.rem_euclid-left.type_inv c.else-other-lt0.either
    ∙ (λ i. remainder_of (c.self.view_is i) (c.other.view_is i)) in
    record { value = is; place = remainder_of_lies c.args.self c.args.other c.new-else-other-lt0.result is }
