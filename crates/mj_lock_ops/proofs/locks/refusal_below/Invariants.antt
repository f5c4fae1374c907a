use Rattle.std.proofs.Common.{◌≡◌, drop}
use Rattle.mj_pcode.specs.Machine.{counts, names_on}
use Rattle.mj_machine.specs.Kept.{stack_of}
use Rattle.mj_lock_ops.specs.Wanted.{refused}
use Rattle.mj_lock_ops.proofs.locks.refusal_below.Given as goal

-- the subscripts of what is left, and why the variables have no names
abbrev pub invariant-loop-reference : goal.invariant-loop-reference
invariant-loop-reference l = record {
  more : l.more ≡ counts (drop l.reference-index l.references);
  names :
      refused (names_on (drop l.reference-index l.references) (drop l.above (stack_of l.machine)))
      ≡ refused (names_on l.references (drop l.above (stack_of l.machine)));
}
