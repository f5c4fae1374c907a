use Rattle.std.proofs.Common.{◌≡◌, ◌++◌, drop, map}
use Rattle.mj_describe.specs.Words.{apart, deadlock_text}
use Rattle.mj_describe.proofs.telling.put_deadlocks.Given as goal

abbrev pub invariant-loop-waits : goal.invariant-loop-waits
invariant-loop-waits l =
    l.bytes.items ++ apart (deadlock_text l.shown l.standing) (map (λ d. d.items) (drop l.waits-index l.deadlocks))
    ≡ l.fn.bytes.items ++ apart (deadlock_text l.shown l.standing) (map (λ d. d.items) l.deadlocks)
