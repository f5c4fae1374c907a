-- An open transaction, and what an access in it is answered.
use Rattle.std.specs.Prelude.{ℕ, Bool, true, false, cond, not, nat_lt, List, [], ◌∷◌, ◌++◌, length}
use Rattle.mj_subs.specs.Name.{Name}
use Rattle.mj_store.specs.Nodes.{but_last}
use Rattle.mj_store.specs.Questions.{Content}
use Rattle.mj_store.specs.Changes.{is_too_deep}
use Rattle.mj_store.specs.Runs.{answer_of, after_accesses}
use Rattle.mj_store.specs.declared.access.Access.{Access}
use Rattle.mj_store.specs.declared.access.Access.TheVariants as access
use Rattle.mj_store.specs.declared.access.Answer.{Answer}
use Rattle.mj_store.specs.declared.access.Answer.TheVariants as answer
use Rattle.mj_txlog.specs.declared.log.TheConstants.{ACCESSES_LIMIT}
use Rattle.mj_txlog.specs.declared.entry.Unlock.{Unlock}
use Rattle.mj_txlog.specs.declared.entry.Entry.{Entry}
use Rattle.mj_txlog.specs.declared.entry.Entry.TheVariants as entry

-- whether an access is a change
abbrev pub is_write : Access → Bool
is_write (access.Set n text) = true
is_write (access.Kill n) = true
is_write (access.Put n nodes) = true
is_write _ = false

-- whether an access would give a name more subscripts than it can have, which is done nowhere
abbrev pub is_refused : Access → Bool
is_refused (access.Put n nodes) = is_too_deep n nodes
is_refused _ = false

-- the accesses of a transaction, in order: reads and writes with their answers, and the unlocks that wait for the commit
abbrev pub Accesses : Type 0
Accesses = List Entry

-- the writes of a transaction, in order
abbrev pub writes_of : Accesses → List Access
writes_of [] = []
writes_of (entry.Access a r ∷ rest) = cond (is_write a) (a ∷ writes_of rest) (writes_of rest)
writes_of (entry.Unlock u ∷ rest) = writes_of rest

-- what a transaction with these accesses sees: the globals as they are, with its own writes made on them, one after the other
abbrev pub seen : Content → Accesses → Content
seen globals accesses = after_accesses (writes_of accesses) globals

-- an open transaction: SERIAL or not, its accesses, and the names of the locks that were gained since it began, one for each count
pub record Transaction : Type 0 where
  pub serial : Bool
  pub accesses : Accesses
  pub gained : List Name

-- a transaction takes no more accesses than these (this profile)
abbrev pub is_full : Transaction → Bool
is_full t = not (nat_lt (length t.accesses) ACCESSES_LIMIT)

-- the answer to an access in a transaction, on the globals as they are
abbrev pub reply_in : Transaction → Content → Access → Answer
reply_in t globals a = cond (is_full t) answer.Limit (answer_of a (seen globals t.accesses))

-- one access more
abbrev pub with_entry : Transaction → Entry → Transaction
with_entry t e = record t { accesses = t.accesses ++ e ∷ [] }

-- the transaction after an access that was answered so: what passes a limit isn't appended
abbrev pub with_reply : Transaction → Access → Answer → Transaction
with_reply t a answer.Limit = t
with_reply t a r = with_entry t (entry.Access a r)

-- and where it was answered on the globals as they are
abbrev pub with_told : Transaction → Access → Content → Transaction
with_told t a globals = with_reply t a (reply_in t globals a)

-- an unlock in a transaction is done where it isn't full
abbrev pub unlock_reply : Transaction → Answer
unlock_reply t = cond (is_full t) answer.Limit answer.Done

-- and then waits for the commit
abbrev pub with_unlock : Transaction → Unlock → Transaction
with_unlock t u = cond (is_full t) t (with_entry t (entry.Unlock u))

-- one count more that was gained of each name, for each of its places in the list
abbrev pub with_gained : Transaction → List Name → Transaction
with_gained t names = record t { gained = t.gained ++ names }

-- all subscripts but the last
abbrev pub front_of : List (List ℕ) → List (List ℕ)
front_of [] = []
front_of (s ∷ p) = but_last s p
