-- A service of the globals and of transactions, with any rule for what a SERIAL commit is told; and rules.
use Rattle.std.specs.Prelude.{◌≡◌, ℕ, ◌==◌, Bool, true, false, [], ◌∷◌, ◌++◌, Option, Some, None, ⊤, if◌then◌else◌}
use Rattle.mj_store.specs.Questions.{Content}
use Rattle.mj_store.specs.Runs.{answer_of}
use Rattle.mj_store.specs.declared.access.Access.TheVariants as access
use Rattle.mj_ask.specs.declared.clash.Clash.{Clash}
use Rattle.mj_ask.specs.declared.ask.Ask.{Ask}
use Rattle.mj_ask.specs.declared.ask.Ask.TheVariants as asks
use Rattle.mj_ask.specs.declared.ask.SharedAsk.TheVariants as shared_asks
use Rattle.mj_ask.specs.declared.ask.Reply.{Reply}
use Rattle.mj_ask.specs.declared.ask.Reply.TheVariants as replies
use Rattle.mj_txlog.specs.Accesses.{Accesses, is_write, seen, Transaction}
use Rattle.mj_txlog.specs.declared.entry.Entry.{Entry}
use Rattle.mj_txlog.specs.declared.entry.Entry.TheVariants as entry
use Rattle.mj_txlog.specs.declared.entry.Unlock.{Unlock}
use Rattle.mj_txn.specs.Commits.{HoldsNow, Hold, Differs}
use Rattle.mj_txn.specs.Closing.{clash_of}
use Rattle.mj_txn.specs.declared.changed.Changed.{Changed}
use Rattle.mj_sys.specs.Transactions.{told_to, with_access, with_names, unlock_of, unlock_told, with_waiting, begun_as}
use Rattle.mj_sys.specs.Shared.{globals_after}
use Rattle.mj_sys.specs.declared.event.Event.{Event}
use Rattle.mj_sys.specs.History.{History, log_of}
use Rattle.mj_serial.specs.Programs.{Program, IsSteady, AreAsked}
use Rattle.mj_serial.specs.Serial.{AsAlone, MustClash}

-- what the commit of a SERIAL transaction may be told, on these globals and with these accesses
abbrev pub Rule : Type 1
Rule = Content → Accesses → Reply → Type 0

-- what is seen here of all that is shared: the globals, and the transaction that each job has open, if it has one
pub record Sight : Type 0 where
  pub globals : Content
  pub transactions : ℕ → Option Transaction

-- what a commit may be told: a SERIAL one by the rule, and any other that it is done
abbrev pub IsKindTold : Rule → Bool → Content → Accesses → Reply → Type 0
IsKindTold rule true globals accesses r = rule globals accesses r
IsKindTold rule false globals accesses r = r ≡ replies.Done

-- where none is open it is done
abbrev pub IsCommitTold : Rule → Option Transaction → Content → Reply → Type 0
IsCommitTold rule None globals r = r ≡ replies.Done
IsCommitTold rule (Some t) globals r = IsKindTold rule t.serial globals t.accesses r

-- what an unlock is told
abbrev pub IsUnlockTold : Option Transaction → Option Unlock → Reply → Type 0
IsUnlockTold t None r = ⊤
IsUnlockTold t (Some u) r = r ≡ unlock_told t

-- what an ask may be told, as far as it is a matter of the globals and the transactions
abbrev pub IsToldByRule : Rule → Option Transaction → Content → Ask → Reply → Type 0
IsToldByRule rule t globals (asks.Shared (shared_asks.Access a)) r = r ≡ replies.Answer (told_to t globals a)
IsToldByRule rule t globals (asks.Shared shared_asks.Commit) r = IsCommitTold rule t globals r
IsToldByRule rule t globals a r = IsUnlockTold t (unlock_of a) r

-- the transaction after an unlock
abbrev pub after_unlock_of : Option Transaction → Option Unlock → Option Transaction
after_unlock_of t None = t
after_unlock_of t (Some u) = with_waiting t u

-- the transaction after an ask
abbrev pub transaction_after : Option Transaction → Content → Ask → Reply → Option Transaction
transaction_after t globals (asks.Shared (shared_asks.Access a)) r = with_access t globals a
transaction_after t globals (asks.Shared (shared_asks.Try names timeout)) replies.Got = with_names t names
transaction_after t globals (asks.Shared (shared_asks.Begin kind)) r = begun_as t kind
transaction_after t globals (asks.Shared shared_asks.Commit) r = None
transaction_after t globals (asks.Shared shared_asks.Rollback) r = None
transaction_after t globals (asks.Shared (shared_asks.Halt fault)) r = None
transaction_after t globals a r = after_unlock_of t (unlock_of a)

-- the globals after a commit that is told this
abbrev pub committed_as : Option Transaction → Content → Reply → Content
committed_as (Some t) globals replies.Done = seen globals t.accesses
committed_as _ globals r = globals

-- the globals after an ask
abbrev pub globals_left : Option Transaction → Content → Ask → Reply → Content
globals_left t globals (asks.Shared (shared_asks.Access a)) r = globals_after t a globals
globals_left t globals (asks.Shared shared_asks.Commit) r = committed_as t globals r
globals_left t globals _ r = globals

-- what is seen before the first event
abbrev pub sight_of : Content → Sight
sight_of globals = record { globals = globals; transactions = λ job. None }

-- what is seen after an event
abbrev pub sight_after : Sight → Event → Sight
sight_after s e = record {
  globals = globals_left (s.transactions e.job) s.globals e.ask e.reply;
  transactions = λ job. if e.job == job then transaction_after (s.transactions e.job) s.globals e.ask e.reply else s.transactions job;
}

abbrev pub sight_behind : Sight → History → Sight
sight_behind s [] = s
sight_behind s (e ∷ h) = sight_behind (sight_after s e) h

-- each event is told so, after those before it
abbrev pub AreTold : Rule → Sight → History → Type 0
AreTold rule s [] = ⊤
AreTold rule s (e ∷ h) = IsToldByRule rule (s.transactions e.job) s.globals e.ask e.reply × AreTold rule (sight_after s e) h

-- the globals that are committed by the end of a history
abbrev pub committed_by : Content → History → Content
committed_by globals h = (sight_behind (sight_of globals) h).globals

-- a history is a run of the jobs' programs from these globals, by this rule
pub record IsRunBy (rule : Rule) (programs : ℕ → Program) (globals : Content) (h : History) : Type 0 where
  pub told : AreTold rule (sight_of globals) h
  pub asked : (job : ℕ) → AreAsked (programs job) [] (log_of job h)

-- by this rule every run is as its blocks run alone
abbrev pub IsSerialBy : Rule → Type 0
IsSerialBy rule =
    (programs : ℕ → Program) (globals : Content) (h : History) → ((job : ℕ) → IsSteady (programs job))
    → IsRunBy rule programs globals h → AsAlone programs globals (committed_by globals h) h

-- the event of a commit that clashes
abbrev pub clashes_at : ℕ → Clash → Event
clashes_at job clash = record { job = job; ask = (asks.Shared shared_asks.Commit); reply = replies.Clash clash }

-- by this rule a commit clashes only where it must
abbrev pub ClashesMustBy : Rule → Type 0
ClashesMustBy rule =
    (programs : ℕ → Program) (globals : Content) (h later : History) (job : ℕ) (clash : Clash) → ((j : ℕ) → IsSteady (programs j))
    → IsRunBy rule programs globals (h ++ clashes_at job clash ∷ later) → MustClash programs (committed_by globals h) h job clash

-- The rule of this system: a commit is done where each read, asked now on the globals with the own writes before it, has the answer that it had.
-- Else it is told the first that differs
abbrev pub Exactly : Rule
Exactly globals accesses replies.Done = Hold globals [] accesses
Exactly globals accesses (replies.Clash clash) = (c : Changed) × (clash ≡ clash_of c) × Differs globals accesses c.place c.then c.now
Exactly globals accesses _ = ⊥

-- a read of the text of one name
abbrev pub is_by_name : Entry → Bool
is_by_name (entry.Access (access.Value n) v) = true
is_by_name _ = false

abbrev pub HoldNamed : Content → Accesses → Accesses → Type 0
HoldNamed globals earlier [] = ⊤
HoldNamed globals earlier (e ∷ rest) = (is_by_name e ≡ true → HoldsNow globals earlier e) × HoldNamed globals (earlier ++ e ∷ []) rest

-- a wrong rule: only what was read by its name is asked again
abbrev pub ByNames : Rule
ByNames globals accesses replies.Done = HoldNamed globals [] accesses
ByNames globals accesses r = Exactly globals accesses r

-- an access, if it is a read, has its answer on this content
abbrev pub HoldsOn : Content → Entry → Type 0
HoldsOn content (entry.Access a r) = is_write a ≡ false → answer_of a content ≡ r
HoldsOn content (entry.Unlock u) = ⊤

abbrev pub HoldOn : Content → Accesses → Type 0
HoldOn content [] = ⊤
HoldOn content (e ∷ rest) = HoldsOn content e × HoldOn content rest

-- a wrong rule: each read is asked again after all own writes
abbrev pub AfterAll : Rule
AfterAll globals accesses replies.Done = HoldOn (seen globals accesses) accesses
AfterAll globals accesses r = Exactly globals accesses r
