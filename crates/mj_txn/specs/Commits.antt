-- What a commit does.
use Rattle.std.specs.Prelude.{◌≡◌, ◌≢◌, ℕ, ◌+◌, true, false, cond, List, [], ◌∷◌, ◌++◌, length, Option, Some, None, ⊤}
use Rattle.std.specs.List.{cons_option}
use Rattle.mj_store.specs.Questions.{Content}
use Rattle.mj_store.specs.Changes.{is_too_deep}
use Rattle.mj_store.specs.Runs.{answer_of}
use Rattle.mj_store.specs.declared.access.Access.{Access}
use Rattle.mj_store.specs.declared.access.Access.TheVariants as access
use Rattle.mj_store.specs.declared.access.Answer.{Answer}
use Rattle.mj_globs.specs.declared.change.Change.{Change}
use Rattle.mj_globs.specs.declared.change.Change.TheVariants as change
use Rattle.mj_txlog.specs.declared.entry.Entry.{Entry}
use Rattle.mj_txlog.specs.declared.entry.Entry.TheVariants as entry
use Rattle.mj_txlog.specs.Accesses.{Accesses, is_write, seen, Transaction}
use Rattle.mj_txn.specs.declared.committing.Outcome.{Outcome}
use Rattle.mj_txn.specs.declared.committing.Outcome.TheVariants as outcome

-- a read after these accesses has this answer now: on the globals, with the transaction's own writes before it
abbrev pub HasAnswer : Content → Accesses → Access → Answer → Type 0
HasAnswer globals earlier a r = answer_of a (seen globals earlier) ≡ r

-- an access after these, if it is a read, has its answer also now
abbrev pub HoldsNow : Content → Accesses → Entry → Type 0
HoldsNow globals earlier (entry.Access a r) = is_write a ≡ false → HasAnswer globals earlier a r
HoldsNow globals earlier (entry.Unlock u) = ⊤

-- and so has each of these, one after the other
abbrev pub Hold : Content → Accesses → Accesses → Type 0
Hold globals earlier [] = ⊤
Hold globals earlier (e ∷ rest) = HoldsNow globals earlier e × Hold globals (earlier ++ e ∷ []) rest

-- a read after these accesses had the answer `old`, and now has another, `new`. It is the k-th of all
pub record IsOther (globals : Content) (earlier : Accesses) (a : Access) (had : Answer) (k : ℕ) (old new : Answer) : Type 0 where
  pub place : k ≡ length earlier + 1
  pub then : old ≡ had
  pub now : new ≡ answer_of a (seen globals earlier)
  pub differ : new ≢ old

-- an access after these is such a read
abbrev pub DiffersNow : Content → Accesses → Entry → ℕ → Answer → Answer → Type 0
DiffersNow globals earlier (entry.Access a r) k old new = (is_write a ≡ false) × IsOther globals earlier a r k old new
DiffersNow globals earlier (entry.Unlock u) k old new = ⊥

-- the first access that is a read with another answer now is the k-th: it was answered `old`, and would be answered `new`
pub record Differs (globals : Content) (accesses : Accesses) (k : ℕ) (old new : Answer) : Type 0 where
  pub earlier : Accesses
  pub e : Entry
  pub later : Accesses
  pub is : accesses ≡ earlier ++ e ∷ later
  pub hold : Hold globals [] earlier
  pub differs : DiffersNow globals earlier e k old new

-- where the transaction is SERIAL, each of its reads has its answer now
abbrev pub MayCommit : Transaction → Content → Type 0
MayCommit t globals = t.serial ≡ true → Hold globals [] t.accesses

-- what may come of a commit. One that isn't SERIAL is always done
abbrev pub CommitsAs : Transaction → Content → Outcome → Type 0
CommitsAs t globals outcome.Done = MayCommit t globals
CommitsAs t globals (outcome.Clash c) = (t.serial ≡ true) × Differs globals t.accesses c.place c.then c.now

-- what it leaves: all writes are made, or none
abbrev pub after_commit : Transaction → Content → Outcome → Content
after_commit t globals outcome.Done = seen globals t.accesses
after_commit t globals (outcome.Clash c) = globals

-- the change that an access makes, if it makes one
abbrev pub change_of : Access → Option Change
change_of (access.Set n text) = Some (change.Set n text)
change_of (access.Kill n) = Some (change.Kill n)
change_of (access.Put n nodes) = cond (is_too_deep n nodes) None (Some (change.Put n nodes))
change_of _ = None

-- the changes that accesses make, in order
abbrev pub changes_of : Accesses → List Change
changes_of [] = []
changes_of (entry.Access a r ∷ rest) = cons_option (change_of a) (changes_of rest)
changes_of (entry.Unlock u ∷ rest) = changes_of rest
