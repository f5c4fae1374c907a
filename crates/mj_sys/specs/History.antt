-- Histories of what was served, and what they leave.
use Rattle.std.specs.Prelude.{◌≡◌, ℕ, ◌==◌, List, [], ◌∷◌, Bool, true, Option, Some, None, ⊤, count_by, if◌then◌else◌}
use Rattle.mj_ask.specs.Fits.{is_shared}
use Rattle.mj_ask.specs.declared.ask.Ask.{Ask}
use Rattle.mj_ask.specs.declared.ask.Reply.{Reply}
use Rattle.mj_jobs.specs.Rows.{IsLive}
use Rattle.mj_sys.specs.declared.event.Event.{Event}
use Rattle.mj_sys.specs.Shared.{Shared, served}

abbrev pub History : Type 0
History = List Event

-- what is shared after what an ask was told
abbrev pub left_by : Shared → Option (Reply × Shared) → Shared
left_by s None = s
left_by s (Some told) = told.1

-- what is shared after an event, whatever its reply. (Whether a busy ask was late leaves the same.)
abbrev pub after : Shared → Event → Shared
after s e = left_by s (served s e.job e.ask true)

-- what is shared after a history
abbrev pub state_of : Shared → History → Shared
state_of s [] = s
state_of s (e ∷ history) = state_of (after s e) history

-- the event is one that is served: its job has a row that hasn't ended, its ask is one that is served here, and its reply is what the job is
-- told
abbrev pub IsServed : Shared → Event → Type 0
IsServed s e = IsLive s.rows e.job × (is_shared e.ask ≡ true) × ((late : Bool) × (served s e.job e.ask late ≡ Some (e.reply, after s e)))

-- each event of the history is served, after those before it. So no job has an event before its row is there, or after its halt
abbrev pub AreServed : Shared → History → Type 0
AreServed s [] = ⊤
AreServed s (e ∷ history) = IsServed s e × AreServed (after s e) history

-- how many events the job has
abbrev pub events_of : ℕ → History → ℕ
events_of job history = count_by (λ e. e.job == job) history

-- what the job asked and was told, in order
abbrev pub log_of : ℕ → History → List (Ask × Reply)
log_of job [] = []
log_of job (e ∷ history) = if e.job == job then (e.ask, e.reply) ∷ log_of job history else log_of job history
