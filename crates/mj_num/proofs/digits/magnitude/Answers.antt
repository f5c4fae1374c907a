use Rattle.std.proofs.Common.{◌<◌, ◌∙◌, sym, ◌+◌, ◌*◌, ◌-◌, get_or, suc, length, drop, arith}
use Rattle.mj_num.proofs.Laws.{le_number_with_digits, number_with_digits-drop}
use Rattle.mj_num.proofs.digits.magnitude.Goals as goal

-- a number that is past the range stays there, whatever digits follow
pub returns-then-number-ge-PAST_RANGE : goal.returns-then-number-ge-PAST_RANGE
returns-then-number-ge-PAST_RANGE c = λ small.
    let number = 10 * c.loop-byte.number + (get_or c.args.bytes.now c.loop-byte.byte-index 0 - 48) in
    let rest = drop (suc c.loop-byte.byte-index) c.args.bytes.now in
    let within : c.loop-byte.byte-index < length c.args.bytes.now = omega arith in
    let digit = sym c.is_ascii_digit.ensures.value ∙ c.if-not-is_ascii_digit.false in
    let on = c.loop-byte.invariant.goes_on ∙ number_with_digits-drop c.loop-byte.number c.loop-byte.byte-index c.args.bytes.now within digit in
    omega (arith, on, le_number_with_digits number rest)
