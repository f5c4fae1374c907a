use Rattle.std.proofs.Common.{◌≡◌, ◌<◌, ◌^◌, drop}
use Rattle.mj_num.specs.Number.{number_with_digits}
use Rattle.mj_num.proofs.digits.magnitude.Given as goal

-- the digits that are left go on from the number so far
abbrev pub invariant-loop-byte : goal.invariant-loop-byte
invariant-loop-byte l =
    record { goes_on : number_with_digits 0 l.bytes ≡ number_with_digits l.number (drop l.byte-index l.bytes); bounded : l.number < 10 ^ 18 }
