use Rattle.std.proofs.Common.{◌≡◌, length}
use Rattle.mj_hints.specs.Near.{is_slip}
use Rattle.mj_hints.proofs.near.is_slip.Given as goal

-- the bytes so far are the same
abbrev pub invariant-same : goal.invariant-same
invariant-same l = is_slip l.word l.name ≡ is_slip l.fn.word l.fn.name

abbrev pub decreases-same : goal.decreases-same
decreases-same l = length l.word
