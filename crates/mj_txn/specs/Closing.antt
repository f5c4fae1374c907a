-- What an open transaction makes of its job's asks, and how it is closed.
use Rattle.std.specs.Prelude.{ℕ, Bool, not, ◌&&◌, List, [], ◌∷◌, if◌then◌else◌}
use Rattle.mj_subs.specs.Name.{Name}
use Rattle.mj_store.specs.Questions.{Content}
use Rattle.mj_store.specs.Runs.{name_of, answer_of}
use Rattle.mj_store.specs.declared.access.Access.{Access}
use Rattle.mj_store.specs.declared.access.Answer.{Answer}
use Rattle.mj_ask.specs.Keeping.{kept_of}
use Rattle.mj_ask.specs.declared.clash.Clash.{Clash}
use Rattle.mj_ask.specs.declared.ask.Reply.{Reply}
use Rattle.mj_ask.specs.declared.ask.Reply.TheVariants as replies
use Rattle.mj_locktab.specs.Locks.{Locks}
use Rattle.mj_locktab.specs.Changes.{after_give, after_give_all}
use Rattle.mj_locktab.specs.declared.taken.Taken.{Taken}
use Rattle.mj_locktab.specs.declared.taken.Taken.TheVariants as takes
use Rattle.mj_txlog.specs.declared.entry.Entry.TheVariants as entry
use Rattle.mj_txlog.specs.declared.entry.Unlock.{Unlock}
use Rattle.mj_txlog.specs.declared.entry.Unlock.TheVariants as unlock
use Rattle.mj_txlog.specs.Accesses.{Accesses, is_write, seen, Transaction, reply_in, with_reply, with_gained}
use Rattle.mj_txn.specs.declared.changed.Changed.{Changed}
use Rattle.mj_txn.specs.declared.committing.Outcome.{Outcome}
use Rattle.mj_txn.specs.declared.committing.Outcome.TheVariants as outcome
use Rattle.mj_txn.specs.Testing.{outcome_of}

-- a change of a local name, which has no place in globals
abbrev pub is_local_write : Access → Bool
is_local_write a = is_write a && not (name_of a).global

-- what an access in a transaction is answered: a change of a local name as elsewhere, all else as the transaction sees the globals
abbrev pub told_in : Transaction → Content → Access → Answer
told_in t globals a = if is_local_write a then answer_of a globals else reply_in t globals a

-- the transaction after it. A change of a local name is no access of it
abbrev pub after_told : Transaction → Content → Access → Transaction
after_told t globals a = if is_local_write a then t else with_reply t a (reply_in t globals a)

-- a try of names in a transaction is one as elsewhere (8.2.12: LOCK); what it takes is gained by the transaction
abbrev pub gained_by_try : Transaction → List Name → Taken → Transaction
gained_by_try t names takes.Got = with_gained t names
gained_by_try t names (takes.Busy holder name) = t
gained_by_try t names takes.Limit = t

-- one unlock that waited
abbrev pub unlocked_by : Locks → ℕ → Unlock → Locks
unlocked_by locks job (unlock.Names names) = after_give locks job names
unlocked_by locks job unlock.All = after_give_all locks job

-- the unlocks that waited, in order
abbrev pub unlocked : Locks → ℕ → Accesses → Locks
unlocked locks job [] = locks
unlocked locks job (entry.Access a r ∷ rest) = unlocked locks job rest
unlocked locks job (entry.Unlock u ∷ rest) = unlocked (unlocked_by locks job u) job rest

-- A transaction is rolled back (8.2.21: TROLLBACK): the counts that were gained go back, and the unlocks that waited are forgotten. The
-- globals are as they are, since its changes were never made
abbrev pub rolled_back : Transaction → ℕ → Locks → Locks
rolled_back t job locks = after_give locks job t.gained

-- what a clash keeps
abbrev pub clash_of : Changed → Clash
clash_of c = record { place = c.place; then = kept_of c.then; now = kept_of c.now }

-- what a commit is told, and what it leaves of the globals and of the locks
pub record Closed : Type 0 where
  pub reply : Reply
  pub globals : Content
  pub locks : Locks

-- A commit that is done makes all changes, and then the unlocks that waited. One that clashes is rolled back (this profile)
abbrev pub commit_closed : Transaction → ℕ → Content → Locks → Outcome → Closed
commit_closed t job globals locks outcome.Done =
    record { reply = replies.Done; globals = seen globals t.accesses; locks = unlocked locks job t.accesses }
commit_closed t job globals locks (outcome.Clash c) =
    record { reply = replies.Clash (clash_of c); globals = globals; locks = rolled_back t job locks }

-- TCOMMIT (8.2.19)
abbrev pub committed : Transaction → ℕ → Content → Locks → Closed
committed t job globals locks = commit_closed t job globals locks (outcome_of t globals)
