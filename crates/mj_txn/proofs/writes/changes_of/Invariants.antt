use Rattle.std.proofs.Common.{◌≡◌, take}
use Rattle.mj_txn.specs.Commits.{changes_of}
use Rattle.mj_txn.proofs.writes.changes_of.Given as goal

-- the changes of the accesses so far
abbrev pub invariant-loop-entry : goal.invariant-loop-entry
invariant-loop-entry l = l.changes.items ≡ changes_of (take l.entry-index l.entries)
