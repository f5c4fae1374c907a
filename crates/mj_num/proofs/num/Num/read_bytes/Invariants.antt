use Rattle.std.proofs.Common.{◌≡◌, neg_ℤ, length, cond}
use Rattle.mj_num.specs.Number.{number_of}
use Rattle.mj_num.proofs.num.Num.read_bytes.Given as goal

-- the signs so far negate what is left, or they don't
abbrev pub invariant-loop-rest : goal.invariant-loop-rest
invariant-loop-rest l = number_of l.bytes ≡ cond l.negative (neg_ℤ (number_of l.rest)) (number_of l.rest)

abbrev pub decreases-loop-rest : goal.decreases-loop-rest
decreases-loop-rest l = length l.rest
