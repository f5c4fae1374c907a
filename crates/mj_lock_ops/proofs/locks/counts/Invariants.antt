use Rattle.std.proofs.Common.{◌≡◌, ◌+◌, drop}
use Rattle.mj_pcode.specs.Machine.{counts}
use Rattle.mj_lock_ops.proofs.locks.counts.Given as goal

-- the subscripts so far, and those of what is left
abbrev pub invariant-loop-reference : goal.invariant-loop-reference
invariant-loop-reference l = l.count + counts (drop l.reference-index l.references) ≡ counts l.references
