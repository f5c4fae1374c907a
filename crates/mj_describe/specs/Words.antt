-- What is printed of a trace (this profile). Byte 10 ends a line; `(` is byte 40, `)` 41, `:` 58.
use Rattle.std.specs.Prelude.{ℕ, ◌+◌, ◌-◌, ◌^◌, min, nat_lt, ◌==◌, Bool, true, false, List, [], ◌∷◌, ◌++◌, length, slice_get, Option, None, Some, decimal, codes}
use Rattle.std.specs.Prelude.{if◌then◌else◌}
use Rattle.std.specs.List.{list_any}
use Rattle.mj_ask.specs.declared.ask.Ask.{Ask}
use Rattle.mj_ask.specs.declared.ask.Ask.TheVariants as asks
use Rattle.mj_ask.specs.declared.ask.Kind.TheVariants as kinds
use Rattle.mj_ask.specs.declared.ask.SharedAsk.TheVariants as shared_asks
use Rattle.mj_ask.specs.declared.ask.Reply.{Reply}
use Rattle.mj_ask.specs.declared.ask.Reply.TheVariants as replies
use Rattle.mj_subs.specs.Name.{Name}
use Rattle.mj_gfile.specs.Spelling.{listed_name}
use Rattle.mj_trace.specs.Spelling.{ask_text, reply_text}
use Rattle.mj_explain.specs.declared.landings.Landing.{Landing}
use Rattle.mj_explain.specs.declared.losses.Loss.{Loss}
use Rattle.mj_explain.specs.declared.clashes.ToldClash.{ToldClash}
use Rattle.mj_explain.specs.declared.clashes.Why.{Why}
use Rattle.mj_explain.specs.declared.cycles.Wait.{Wait}
use Rattle.mj_ask.specs.declared.noted.Noted.{Noted}
use Rattle.mj_explain.specs.Waiting.{Asked, Hold, wanted_by}
use Rattle.mj_explain.specs.Stories.{Story}

-- where a job stands in the routines: a routine and a line of it, or nowhere
abbrev pub Spot : Type 0
Spot = Option (List ℕ × ℕ)

-- ---- places

-- a routine and a line
abbrev pub spot_text : List ℕ × ℕ → List ℕ
spot_text p = p.0 ++ 58 ∷ decimal p.1

-- behind a line of the trace: in parentheses, or nothing
abbrev pub spot_part : Spot → List ℕ
spot_part None = []
spot_part (Some p) = codes " (" ++ spot_text p ++ 41 ∷ []

-- behind a word: with `at`, or nothing
abbrev pub spot_at : Spot → List ℕ
spot_at None = []
spot_at (Some p) = codes " at " ++ spot_text p

-- the spot of a place, where there is one
abbrev pub spot_of : Option Spot → Spot
spot_of None = None
spot_of (Some spot) = spot

abbrev pub spot_in : List Spot → ℕ → Spot
spot_in spots k = spot_of (slice_get spots k)

-- The line of a trace on which an event stands, which counts from 0. Lines count from 1: before the events stand the header, and a line for each device and
-- each start. No number is greater than the greatest of 64 bits
abbrev pub line_of : ℕ → ℕ → ℕ
line_of before k = min (before + k + 2) (2 ^ 64 - 1)

-- what is known of a trace: how many lines stand between its header and its events, its events, and where in the routines each came from
pub record Shown : Type 0 where
  pub before : ℕ
  pub events : List Noted
  pub spots : List Spot

abbrev pub where_text : Shown → ℕ → List ℕ
where_text s k = codes "line " ++ decimal (line_of s.before k) ++ spot_part (spot_in s.spots k)

-- ---- events

-- the job of the event at a place
abbrev pub job_of : Option Noted → List ℕ
job_of None = codes "-"
job_of (Some e) = decimal e.job

-- what it asked
abbrev pub ask_of : Option Noted → List ℕ
ask_of None = codes "-"
ask_of (Some e) = ask_text e.ask

-- what it was told
abbrev pub reply_of : Option Noted → List ℕ
reply_of None = codes "-"
reply_of (Some e) = reply_text e.reply

abbrev pub job_text : Shown → ℕ → List ℕ
job_text s k = codes "job " ++ job_of (slice_get s.events k)

-- that a job asked something at a place
abbrev pub asked_text : Shown → ℕ → List ℕ
asked_text s k = codes "  At " ++ where_text s k ++ 32 ∷ (job_text s k ++ codes " asked " ++ ask_of (slice_get s.events k))

-- and what it was told
abbrev pub told_text : Shown → ℕ → List ℕ
told_text s k = asked_text s k ++ codes " and was told " ++ reply_of (slice_get s.events k)

-- ---- clashes

-- how a change was made
abbrev pub made_text : Shown → Landing → List ℕ
made_text s l =
    if l.made == l.write then codes ", which changed that at once."
    else codes ", which changed that by the commit at " ++ where_text s l.made ++ 46 ∷ []

abbrev pub cause_text : Shown → Option Landing → List ℕ
cause_text s None = []
cause_text s (Some l) = asked_text s l.write ++ made_text s l ++ 10 ∷ []

abbrev pub clash_head : Shown → ToldClash → List ℕ
clash_head s c = codes "Clash: " ++ job_text s c.commit ++ codes " couldn't commit at " ++ where_text s c.commit

-- why it couldn't: where its transaction began, its read that has another answer, and the change that gave it that
abbrev pub why_text : Shown → Option Why → List ℕ
why_text s None = 46 ∷ 10 ∷ []
why_text s (Some w) =
    codes " the transaction begun at " ++ where_text s w.begin ++ 46 ∷ 10 ∷ (told_text s w.read
    ++ codes ". At the commit it would be told " ++ reply_text (replies.Answer w.answer) ++ 46 ∷ 10 ∷ cause_text s w.cause)

abbrev pub clash_text : Shown → ToldClash → List ℕ
clash_text s c = clash_head s c ++ why_text s c.why

-- ---- lost updates

-- the two looks, in their order
abbrev pub looks_text : Shown → ℕ → ℕ → List ℕ
looks_text s a b = told_text s a ++ 46 ∷ 10 ∷ (told_text s b ++ 46 ∷ 10 ∷ [])

abbrev pub ordered_text : Shown → Loss → List ℕ
ordered_text s l = if nat_lt l.second_look l.first_look then looks_text s l.second_look l.first_look else looks_text s l.first_look l.second_look

abbrev pub loss_text : Shown → Loss → List ℕ
loss_text s l = codes "Lost update: what " ++ job_text s l.first_write ++ codes " set is lost." ++ 10 ∷ (ordered_text s l
    ++ asked_text s l.first_write ++ 46 ∷ 10 ∷ (asked_text s l.second_write ++ codes ", without a look at that." ++ 10 ∷ []))

-- ---- deadlocks

-- what all is told of: the asks that jobs make and have no reply to, where each stands, and what jobs hold
pub record Standing : Type 0 where
  pub asked : List Asked
  pub spots : List Spot
  pub holds : List Hold

abbrev pub name_text : Option Name → List ℕ
name_text None = codes "-"
name_text (Some n) = listed_name n

-- the job of an ask
abbrev pub asker_text : Option Asked → List ℕ
asker_text None = codes "-"
asker_text (Some a) = decimal a.0

-- the job that holds something, and the name that it holds
abbrev pub holder_text : Option Hold → List ℕ
holder_text None = codes "-"
holder_text (Some h) = decimal h.0 ++ codes " holds " ++ listed_name h.1

-- that a job waits for a name that another holds
abbrev pub wait_text : Standing → Wait → List ℕ
wait_text t w = codes "  Job " ++ asker_text (slice_get t.asked w.ask) ++ codes " waits" ++ spot_at (spot_in t.spots w.ask) ++ codes " for "
    ++ name_text (wanted_by (slice_get t.asked w.ask) w.name) ++ codes ", while job " ++ holder_text (slice_get t.holds w.hold) ++ 46 ∷ 10 ∷ []

-- that a job holds a name, and since when, if it is this job
abbrev pub hold_text : Shown → Option Asked → Hold → List ℕ
hold_text s None h = []
hold_text s (Some a) h =
    if h.0 == a.0
    then codes "  Job " ++ decimal h.0 ++ codes " holds " ++ listed_name h.1 ++ codes ", taken at " ++ where_text s h.2 ++ 46 ∷ 10 ∷ []
    else []

abbrev pub holds_text : Shown → Option Asked → List Hold → List ℕ
holds_text s a [] = []
holds_text s a (h ∷ hs) = hold_text s a h ++ holds_text s a hs

-- of each job of a round what it holds, and what it waits for
abbrev pub round_text : Shown → Standing → List Wait → List ℕ
round_text s t [] = []
round_text s t (w ∷ ws) = holds_text s (slice_get t.asked w.ask) t.holds ++ wait_text t w ++ round_text s t ws

abbrev pub deadlock_text : Shown → Standing → List Wait → List ℕ
deadlock_text s t ws =
    codes "Deadlock of " ++ decimal (length ws) ++ codes " jobs: each waits for the next, and the last for the first." ++ 10 ∷ round_text s t ws

-- ---- what a run does in the place of an event

abbrev pub spot_from : Spot → List ℕ
spot_from None = []
spot_from (Some p) = codes " from " ++ spot_text p

abbrev pub then_told : Option Reply → List ℕ
then_told None = []
then_told (Some reply) = codes ", and is told " ++ reply_text reply

-- what a job asks there, from where, and what it is told, if that is known
abbrev pub instead_text : ℕ → Ask → Spot → Option Reply → List ℕ
instead_text job ask spot told =
    codes "    job " ++ decimal job ++ codes " asks " ++ ask_text ask ++ spot_from spot ++ codes " here" ++ then_told told ++ 10 ∷ []

-- ---- all

-- texts, with an empty line before each
abbrev pub apart : {A : Type 0} → (A → List ℕ) → List A → List ℕ
apart text [] = []
apart text (x ∷ xs) = 10 ∷ text x ++ apart text xs

-- how many more there are than are told
abbrev pub more_text : List ℕ → ℕ → ℕ → List ℕ
more_text what told all = if nat_lt told all then 10 ∷ codes "And " ++ decimal (all - told) ++ what ++ codes " more." ++ 10 ∷ [] else []

-- how many there are of each
abbrev pub counts_text : ℕ → Story → List ℕ
counts_text events story = codes "events: " ++ decimal events ++ codes ", clashes: " ++ decimal story.all_clashes
    ++ codes ", deadlocks: " ++ decimal (length story.deadlocks) ++ codes ", lost updates: " ++ decimal story.all_losses ++ 10 ∷ []

-- whether it begins a transaction without SERIAL
abbrev pub is_plain_begin : Ask → Bool
is_plain_begin (asks.Shared (shared_asks.Begin kinds.Plain)) = true
is_plain_begin _ = false

-- whether one of some events does
abbrev pub have_plain : List Noted → Bool
have_plain es = list_any (λ (e : Noted). is_plain_begin e.ask) es

-- that nothing compares what such a transaction has read, if there is one
abbrev pub plain_text : List Noted → List ℕ
plain_text es = if have_plain es
    then 10 ∷ codes "There are transactions without SERIAL. What they read may be out of date when they commit: nothing is compared then." ++ 10 ∷ []
    else []

abbrev pub story_text : Shown → Standing → Story → List ℕ
story_text s t story = counts_text (length s.events) story
    ++ apart (clash_text s) story.clashes ++ more_text (codes " clashes") (length story.clashes) story.all_clashes
    ++ apart (deadlock_text s t) story.deadlocks
    ++ apart (loss_text s) story.losses ++ more_text (codes " lost updates") (length story.losses) story.all_losses
    ++ plain_text s.events
