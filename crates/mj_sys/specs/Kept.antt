-- What is shared, as it is kept.
use Rattle.std.specs.Prelude.{◌≡◌, ℕ, ◌+◌, ◌-◌, ◌≤◌, ◌==◌, ◌++◌, slice_set, if◌then◌else◌, List, [], ◌∷◌, length, Bool, true, false, Option, Some, None}
use Rattle.std.specs.List.{slice_index_or}
use Rattle.mj_ask.specs.declared.ask.Ask.{Ask}
use Rattle.mj_ask.specs.declared.ask.Ask.TheVariants as asks
use Rattle.mj_ask.specs.declared.ask.SharedAsk.{SharedAsk}
use Rattle.mj_ask.specs.declared.ask.Reply.{Reply}
use Rattle.mj_ask.specs.declared.ask.Reply.TheVariants as replies
use Rattle.mj_dev.specs.Heard.{Heard, IsNew}
use Rattle.mj_dev.specs.Shelves.{Shelf, principal, left_of}
use Rattle.mj_jobs.specs.Rows.{Rows}
use Rattle.mj_locktab.specs.declared.taken.Taken.{Taken}
use Rattle.mj_locktab.specs.declared.taken.Taken.TheVariants as takes
use Rattle.mj_store.specs.declared.access.Answer.{Answer}
use Rattle.mj_store.specs.declared.access.Answer.TheVariants as answers
use Rattle.mj_subs.specs.Name.{Name}
use Rattle.mj_txlog.specs.Accesses.{Transaction}
use Rattle.mj_store.specs.declared.access.Access.{Access}
use Rattle.mj_locktab.specs.Locks.{Locks}
use Rattle.mj_txn.specs.Closing.{Closed}
use Rattle.mj_sys.specs.Transactions.{Transacted, own_of, with_names, with_access, with_transaction, closed_as}
use Rattle.mj_sys.specs.Devices.{Devices, sessions_of}
use Rattle.mj_sys.specs.Opening.{device_of}
use Rattle.mj_sys.specs.Shared.{Shared, answered, globals_after, moves_session}
use Rattle.mj_sys.specs.History.{History}
use Rattle.mj_sys.specs.System.{Blocks, Claimed}
use Rattle.mj_sys.specs.declared.served.Served.{Served}
use Rattle.mj_sys.specs.declared.served.Served.TheVariants as serveds
use Rattle.mj_sys.specs.declared.shared.Answered.{Answered}
use Rattle.mj_sys.specs.declared.shared.Answered.TheVariants as answereds
use Rattle.mj_sys.specs.declared.shared.Outcome.{Outcome}
use Rattle.mj_sys.specs.declared.shared.Outcome.TheVariants as outcomes

-- what is shared, and how many rows were claimed
pub record Service : Type 0 where
  pub state : Shared
  pub claimed : ℕ

-- the devices of a pool, each with the job that holds it, if one does
abbrev pub devices_of : ℕ → List Shelf → List (Option ℕ) → Devices
devices_of principals [] holders = []
devices_of principals (shelf ∷ shelves) [] = []
devices_of principals (shelf ∷ shelves) (holder ∷ holders) = device_of principals shelf holder ∷ devices_of principals shelves holders

-- Each name of the pool has a place for its holder. There are as many principal sessions as were claimed and are left, and one for each row
-- at least.
pub record AreTogether (principals : ℕ) (shelves : List Shelf) (holders : List (Option ℕ)) (jobs : Rows) : Type 0 where
  pub placed : length holders ≡ length shelves
  pub sessions : left_of principal shelves + jobs.claimed ≡ principals
  pub known : sessions_of (devices_of principals shelves holders) principal ≡ principals
  pub room : length jobs.rows ≤ principals

-- What comes of an ask: it is told a reply, which is there twice; or a new session goes to the job; or it is busy, by what another has. No row is
-- claimed by it.
abbrev pub ComesOfAsk : Service → ℕ → SharedAsk → Bool → Outcome Heard → Service → Type 0
ComesOfAsk old job ask late (outcomes.Told reply again) new =
    (answered old.state job ask late ≡ Some (reply, new.state))
    × (moves_session old.state ask ≡ false)
    × (again ≡ reply)
    × (new.claimed ≡ old.claimed)
ComesOfAsk old job ask late (outcomes.Opened session) new =
    (answered old.state job ask late ≡ Some (replies.Got, new.state))
    × (moves_session old.state ask ≡ true)
    × IsNew session
    × (new.claimed ≡ old.claimed)
ComesOfAsk old job ask late (outcomes.Busy holder held) new =
    (answered old.state job ask late ≡ None) × Blocks old.state job ask holder held × (new ≡ old)

-- what comes of an ask by which no session goes to a job, as what comes of any
abbrev pub outcome_as : {S : Type 0} → Answered → Outcome S
outcome_as (answereds.Told reply again) = outcomes.Told reply again
outcome_as (answereds.Busy holder held) = outcomes.Busy holder held

-- the globals and the transactions after an access of the job
abbrev pub with_accessed : Transacted → ℕ → Access → Transacted
with_accessed s job a = record {
  globals = globals_after (own_of s job) a s.globals;
  transactions = with_transaction s.transactions job (with_access (own_of s job) s.globals a);
}

-- what comes of the job's commit, and the globals and the transactions after it
abbrev pub closed_of : Transacted → ℕ → Locks → Closed
closed_of s job locks = closed_as (own_of s job) job s.globals locks

abbrev pub with_closed : Transacted → ℕ → Locks → Transacted
with_closed s job locks = record { globals = (closed_of s job locks).globals; transactions = with_transaction s.transactions job None }

-- the transaction after a try: what is got is gained by it
abbrev pub transaction_after_try : Option Transaction → List Name → Taken → Option Transaction
transaction_after_try t names takes.Got = with_names t names
transaction_after_try t names (takes.Busy holder name) = t
transaction_after_try t names takes.Limit = t

-- what an unlock is told
abbrev pub as_reply : Answer → Reply
as_reply answers.Limit = replies.Limit
as_reply _ = replies.Done

-- who holds a name once the job's hold of it ends
abbrev pub without : ℕ → Option ℕ → Option ℕ
without job None = None
without job (Some holder) = if holder == job then None else Some holder

-- what the job is told of it
abbrev pub told_of : {S : Type 0} → Outcome S → Served S
told_of (outcomes.Told reply again) = serveds.Reply reply
told_of (outcomes.Opened session) = serveds.Opened session
told_of (outcomes.Busy holder held) = serveds.Busy holder held

-- the reply that is written down, none where it is busy
abbrev pub kept_reply : {S : Type 0} → Outcome S → Option Reply
kept_reply (outcomes.Told reply again) = Some again
kept_reply (outcomes.Opened session) = Some replies.Got
kept_reply (outcomes.Busy holder held) = None

-- The event is written down: the history has it at its end, its job's count is one more, and the claim's too. Where there is no reply, all
-- stays.
abbrev pub IsWrittenDown : Option Reply → Ask → History → List ℕ → Claimed → History → List ℕ → Claimed → Type 0
IsWrittenDown None ask history counts claim history' counts' claim' = (history' ≡ history) × (counts' ≡ counts) × (claim' ≡ claim)
IsWrittenDown (Some reply) ask history counts claim history' counts' claim' =
    (history' ≡ history ++ record { job = claim.job; ask = ask; reply = reply } ∷ [])
    × (counts' ≡ slice_set counts (claim.job - 1) (slice_index_or counts (claim.job - 1) 0 + 1))
    × (claim' ≡ record claim { events = claim.events + 1 })

-- the ask is served, and what came of it is told and written down
pub record ServesAndRecords (old : Service) (history : History) (counts : List ℕ) (claim : Claimed) (ask : SharedAsk) (late : Bool) (told : Served Heard)
    (new : Service) (history' : History) (counts' : List ℕ) (claim' : Claimed) : Type 0 where
  pub outcome : Outcome Heard
  pub comes : ComesOfAsk old claim.job ask late outcome new
  pub is_told : told ≡ told_of outcome
  pub is_written : IsWrittenDown (kept_reply outcome) (asks.Shared ask) history counts claim history' counts' claim'
