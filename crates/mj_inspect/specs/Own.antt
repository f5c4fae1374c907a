-- Globals as a job sees them: with what its open transaction wrote.
use Rattle.std.specs.Prelude.{◌≡◌, ◌<◌, ◌⊎◌, slice_get, ℕ, ◌==◌, Bool, true, false, ◌&&◌, [], ◌∷◌, Option, Some, None, option_map, if◌then◌else◌}
use Rattle.mj_ask.specs.declared.ask.Ask.{Ask}
use Rattle.mj_ask.specs.declared.ask.Ask.TheVariants as asks
use Rattle.mj_ask.specs.declared.ask.SharedAsk.TheVariants as shared
use Rattle.mj_ask.specs.declared.ask.Reply.{Reply}
use Rattle.mj_ask.specs.declared.ask.Reply.TheVariants as replies
use Rattle.mj_store.specs.Questions.{Content}
use Rattle.mj_store.specs.declared.access.Access.{Access}
use Rattle.mj_store.specs.declared.access.Answer.{Answer}
use Rattle.mj_store.specs.declared.access.Answer.TheVariants as answers
use Rattle.mj_txlog.specs.Accesses.{Transaction, seen}
use Rattle.mj_sys.specs.declared.event.Event.{Event}
use Rattle.mj_sys.specs.Shared.{Shared, changed, open_of}
use Rattle.mj_sys.specs.History.{History}

-- what a transaction sees of these globals, if there is one
abbrev pub seen_in : Content → Option Transaction → Option Content
seen_in globals t = option_map (λ t. seen globals t.accesses) t

-- The globals as the transaction sees them that a job has open, with its own writes made on the committed ones; none where it has none open.
abbrev pub seen_by : Shared → ℕ → Option Content
seen_by s job = seen_in s.globals (open_of s job)

-- the globals as a job sees them: as its open transaction does, or else the committed ones
abbrev pub seen_or : Content → Option Content → Content
seen_or committed None = committed
seen_or committed (Some own) = own

abbrev pub seen_globals : Shared → ℕ → Content
seen_globals s job = seen_or s.globals (seen_by s job)

-- ---- how they are found from the events of the job

-- what a transaction sees behind an access of its own that was answered so: what passes a limit isn't made
abbrev pub after_answer : Content → Access → Answer → Content
after_answer content a answers.Limit = content
after_answer content a answer = changed a content

-- what a job sees with its open transaction behind an access of its own, by what it saw before
abbrev pub seen_access : Option Content → Access → Reply → Option Content
seen_access own a (replies.Answer answer) = option_map (λ c. after_answer c a answer) own
seen_access own a reply = own

-- behind any event of its own. Where a transaction begins, it sees the committed globals; where one is open, it goes on
abbrev pub seen_after : Content → Option Content → Ask → Reply → Option Content
seen_after committed own (asks.Shared (shared.Begin kind)) reply = Some (seen_or committed own)
seen_after committed own (asks.Shared shared.Commit) reply = None
seen_after committed own (asks.Shared shared.Rollback) reply = None
seen_after committed own (asks.Shared (shared.Halt fault)) reply = None
seen_after committed own (asks.Shared (shared.Access a)) reply = seen_access own a reply
seen_after committed own a reply = own

-- what a job asked and was told by an event, if that is one of its own
abbrev pub own_event : ℕ → Option Event → Option (Ask × Reply)
own_event job None = None
own_event job (Some e) = if e.job == job then Some (e.ask, e.reply) else None

-- what it sees behind that
abbrev pub seen_on : Content → Option Content → Option (Ask × Reply) → Option Content
seen_on committed own None = own
seen_on committed own (Some e) = seen_after committed own e.0 e.1

-- behind an event, if there is one
abbrev pub seen_at : Content → ℕ → Option Content → Option Event → Option Content
seen_at committed job own e = seen_on committed own (own_event job e)

-- behind these events
abbrev pub seen_behind : Content → ℕ → Option Content → History → Option Content
seen_behind committed job own [] = own
seen_behind committed job own (e ∷ rest) = seen_behind committed job (seen_at committed job own (Some e)) rest

-- an ask closes the transaction of its job, if one is open
abbrev pub closes : Ask → Bool
closes (asks.Shared shared.Commit) = true
closes (asks.Shared shared.Rollback) = true
closes (asks.Shared (shared.Halt fault)) = true
closes _ = false

-- by an event this job closes its transaction
abbrev pub closes_at : ℕ → Option Event → Bool
closes_at job None = false
closes_at job (Some e) = e.job == job && closes e.ask

-- of the first events, so many, this is one by which the job closes its transaction, or the first of all
abbrev pub IsFrom : ℕ → History → ℕ → ℕ → Type 0
IsFrom job history count from = (from ≡ 0) ⊎ ((from < count) × (closes_at job (slice_get history from) ≡ true))
