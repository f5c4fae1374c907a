use Rattle.std.proofs.Common.{◌≡◌, ◌++◌, drop, option_copied}
use Rattle.mj_describe.specs.Words.{holds_text}
use Rattle.mj_describe.proofs.deadlocks.put_holds.Given as goal

abbrev pub invariant-loop-hold : goal.invariant-loop-hold
invariant-loop-hold l = l.bytes.items ++ holds_text l.shown (option_copied l.asked) (drop l.hold-index l.holds) ≡ l.fn.bytes.items ++ holds_text l.shown (option_copied l.asked) l.holds
