-- The history of what all jobs share, with what stands in the jobs' logs alone.
--
-- What a job asks a device, or the clock, is in its log, and in no history of the system. Where it stands among the events of other jobs nothing tells, and
-- it makes no difference to them. So it is put directly behind the job's last event before it; and where there is none, behind the event that made the job's
-- row, or first of all.
use Rattle.std.specs.Prelude.{ℕ, zero, suc, ◌==◌, [], ◌∷◌, ◌++◌, map, Option, Some, None, if◌then◌else◌}
use Rattle.mj_ask.specs.Fits.{is_shared}
use Rattle.mj_ask.specs.declared.ask.Ask.{Ask}
use Rattle.mj_ask.specs.declared.ask.Ask.TheVariants as asks
use Rattle.mj_ask.specs.declared.ask.SharedAsk.TheVariants as shared_asks
use Rattle.mj_ask.specs.declared.ask.Reply.{Reply}
use Rattle.mj_ask.specs.declared.ask.Reply.TheVariants as replies
use Rattle.mj_jobvm.specs.Run.{Log}
use Rattle.mj_sys.specs.declared.event.Event.{Event}
use Rattle.mj_sys.specs.History.{History}

-- the entries of a log that the system served
abbrev pub shared_log : Log → Log
shared_log [] = []
shared_log (e ∷ log) = if is_shared e.0 then e ∷ shared_log log else shared_log log

-- the job's own entries: those of devices and of the clock that stand before the first that the system served
abbrev pub own : Log → Log
own [] = []
own (e ∷ log) = if is_shared e.0 then [] else e ∷ own log

-- the log from the first entry on that the system served
abbrev pub onward : Log → Log
onward [] = []
onward (e ∷ log) = if is_shared e.0 then e ∷ log else onward log

-- the log without its first entry
abbrev pub behind : Log → Log
behind [] = []
behind (e ∷ log) = log

-- what is left of the log of each job
abbrev pub Left : Type 0
Left = ℕ → Log

-- of this job that is left
abbrev pub with_left : Left → ℕ → Log → Left
with_left left job log k = if k == job then log else left k

-- the job's next entry, which the system served, is past
abbrev pub heard : Left → ℕ → Left
heard left job = with_left left job (behind (left job))

-- the job's own entries before the next that the system served are past
abbrev pub passed : Left → ℕ → Left
passed left job = with_left left job (onward (left job))

-- entries of a job's log as events
abbrev pub said : ℕ → Log → History
said job log = map (λ (e : Ask × Reply). record { job = job; ask = e.0; reply = e.1 }) log

-- the job whose row is made by an ask with this reply
abbrev pub made : Ask → Reply → Option ℕ
made (asks.Shared (shared_asks.Start start timeout)) (replies.Job job) = Some job
made _ _ = None

-- the own entries of a job that begins
abbrev pub begun : Left → Option ℕ → History
begun left None = []
begun left (Some job) = said job (own (left job))

-- they are past
abbrev pub past : Left → Option ℕ → Left
past left None = left
past left (Some job) = passed left job

-- an event of the system's history, and directly behind it the own entries of its job, and then of the job whose row it made
abbrev pub told_with : Left → Event → History
told_with left e = e ∷ (said e.job (own (heard left e.job e.job)) ++ begun (passed (heard left e.job) e.job) (made e.ask e.reply))

-- what is left behind them
abbrev pub left_behind : Left → Event → Left
left_behind left e = past (passed (heard left e.job) e.job) (made e.ask e.reply)

-- a history of the system with the own entries behind each of its events
abbrev pub merged : Left → History → History
merged left [] = []
merged left (e ∷ history) = told_with left e ++ merged (left_behind left e) history

-- the own entries of so many jobs, from one on, in order of job
abbrev pub firsts : ℕ → ℕ → Left → History
firsts job zero left = []
firsts job (suc n) left = said job (own (left job)) ++ firsts (suc job) n (passed left job)

-- what is left behind them
abbrev pub left_by_firsts : ℕ → ℕ → Left → Left
left_by_firsts job zero left = left
left_by_firsts job (suc n) left = left_by_firsts (suc job) n (passed left job)

-- The merged history, where so many jobs have a row from the first on: their own entries before anything was served, in order of job, and then the system's
-- history with all others'.
abbrev pub merged_from : ℕ → Left → History → History
merged_from n logs history = firsts 1 n logs ++ merged (left_by_firsts 1 n logs) history
