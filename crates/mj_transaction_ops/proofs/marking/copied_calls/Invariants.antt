use Rattle.std.proofs.Common.{◌≡◌, map, take}
use Rattle.mj_machine.specs.Contexts.{call_of}
use Rattle.mj_transaction_ops.proofs.marking.copied_calls.Given as goal

abbrev pub invariant-loop-call : goal.invariant-loop-call
invariant-loop-call l = map call_of l.copy.items ≡ map call_of (take l.call-index l.calls)
