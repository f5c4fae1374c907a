use Rattle.std.proofs.Common.{◌≡◌, [], take}
use Rattle.mj_txn.specs.Commits.{changes_of}
use Rattle.mj_txn.proofs.writes.change_nothing.Given as goal

-- the accesses so far make no change
abbrev pub invariant-loop-entry : goal.invariant-loop-entry
invariant-loop-entry l = changes_of (take l.entry-index l.entries) ≡ []
