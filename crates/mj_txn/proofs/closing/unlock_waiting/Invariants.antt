use Rattle.std.proofs.Common.{◌≡◌, take}
use Rattle.mj_txn.specs.Closing.{unlocked}
use Rattle.mj_txn.proofs.closing.unlock_waiting.Given as goal

-- the unlocks so far are made
abbrev pub invariant-loop-entry : goal.invariant-loop-entry
invariant-loop-entry l = l.locks.holds ≡ unlocked l.initial.locks.holds l.job (take l.entry-index l.entries)
