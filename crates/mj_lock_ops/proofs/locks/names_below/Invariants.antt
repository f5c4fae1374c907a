use Rattle.std.proofs.Common.{◌≡◌, ◌<◌, ◌++◌, drop, length, Ok}
use Rattle.std.specs.Prelude.{IfSome}
use Rattle.mj_text.specs.Failing.{then_value}
use Rattle.mj_pcode.specs.Machine.{counts, names_on}
use Rattle.mj_machine.specs.Kept.{stack_of}
use Rattle.mj_lock_ops.specs.Wanted.{listed}
use Rattle.mj_lock_ops.proofs.locks.names_below.Given as goal

-- the names so far, those of what is left, and the subscripts of what is left
abbrev pub invariant-loop-reference : goal.invariant-loop-reference
invariant-loop-reference l = record {
  more : l.more ≡ counts (drop l.reference-index l.references);
  names :
      then_value (names_on (drop l.reference-index l.references) (drop l.above (stack_of l.machine))) (λ xs. Ok (listed l.names ++ xs))
      ≡ names_on l.references (drop l.above (stack_of l.machine));
  some : IfSome l.names (λ xs. 0 < length xs);
}
