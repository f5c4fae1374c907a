use Rattle.std.proofs.Common.{◌≡◌, ◌++◌, drop}
use Rattle.mj_describe.specs.Words.{round_text}
use Rattle.mj_describe.proofs.deadlocks.put_round.Given as goal

abbrev pub invariant-loop-wait : goal.invariant-loop-wait
invariant-loop-wait l = l.bytes.items ++ round_text l.shown l.standing (drop l.wait-index l.waits) ≡ l.fn.bytes.items ++ round_text l.shown l.standing l.waits
