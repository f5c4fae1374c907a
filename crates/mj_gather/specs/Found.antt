-- What is known of jobs that were run, and of their logs, on the way to a run.
use Rattle.std.specs.Prelude.{◌≡◌, ℕ, suc, ◌≤◌, List, [], ◌∷◌, ◌++◌, Option, None, Some}
use Rattle.mj_jobs.specs.Rows.{Row, HasStart}
use Rattle.mj_jobvm.specs.Run.{Log}
use Rattle.mj_sys.specs.declared.event.Event.{Event}
use Rattle.mj_sys.specs.History.{History}
use Rattle.mj_core.specs.declared.happened.Happened.{Happened}
use Rattle.mj_core.specs.Woven.{Logs, woven}
use Rattle.mj_gather.specs.Rans.{Kept, IsRan, ArePlacesIn}
use Rattle.mj_gather.specs.Merged.{Left, own, behind, made, heard}
use Rattle.mj_gather.specs.Lent.{left_at}

-- a job starts as its row says, and its log and its places are as its type says
pub record IsSound (rows : List Row) (r : Kept) : Type 0 where
  pub starts : HasStart rows r.claim.job r.claim.start
  pub ran : IsRan r.image r.claim r.log r.stop
  pub placed : ArePlacesIn r.image r.claim r.log r.places

-- how many rows are made, where this is the job whose row is made, and so many are made behind
abbrev pub more_if : Option ℕ → ℕ → ℕ
more_if None n = n
more_if (Some job) n = suc n

-- how many rows the events of a history made
abbrev pub made_in : History → ℕ
made_in [] = 0
made_in (e ∷ history) = more_if (made e.ask e.reply) (made_in history)

-- none of so many jobs has own entries before its next one that the system served
abbrev pub Quiet : Left → ℕ → Type 0
Quiet left n = (job : ℕ) → job ≤ n → own (left job) ≡ []

-- a log begins with an event
abbrev pub IsFirst : Log → Event → Type 0
IsFirst log e = log ≡ (e.ask, e.reply) ∷ behind log

-- an event that its job's log has next is written down, and past
pub record IsLeftAt (logs : Logs) (places : List ℕ) (order : List Happened) (e : Event) (places' : List ℕ) (order' : List Happened) : Type 0 where
  pub first : IsFirst (left_at logs places e.job) e
  pub left : left_at logs places' ≡ heard (left_at logs places) e.job
  pub written : woven logs order' ≡ woven logs order ++ e ∷ []
