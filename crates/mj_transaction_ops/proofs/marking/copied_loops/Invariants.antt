use Rattle.std.proofs.Common.{◌≡◌, map, take}
use Rattle.mj_machine.specs.Contexts.{loop_of}
use Rattle.mj_transaction_ops.proofs.marking.copied_loops.Given as goal

abbrev pub invariant-loop-l : goal.invariant-loop-l
invariant-loop-l l = map loop_of l.copy.items ≡ map loop_of (take l.l-index l.loops)
