-- The trace of a run: it can be written, what is written is read back as this trace, and a replay of it finds the run again.
use Rattle.std.specs.Prelude.{◌≡◌, ◌≤◌, ℕ, true, ◌&&◌, List, [], ◌∷◌, ◌++◌, Option, None, map, length, Ok, ⊤}
use Rattle.std.specs.List.{list_all, slice_index_or}
use Rattle.mj_store.specs.Questions.{Content}
use Rattle.mj_ask.specs.Fitting.{is_content}
use Rattle.mj_ask.specs.Started.{Started}
use Rattle.mj_ask.specs.Written.{is_entry}
use Rattle.mj_ask.specs.Within.{is_ask_within, is_reply_within}
use Rattle.mj_ask.specs.declared.entry.Entry.{Entry}
use Rattle.mj_ask.specs.declared.noted.Noted.{Noted}
use Rattle.mj_semantics.specs.State.{Place}
use Rattle.mj_text.specs.Limit.{is_within}
use Rattle.mj_text.specs.declared.limit.Limit.{Limit}
use Rattle.mj_text.specs.declared.limit.Limit.TheVariants.{V1, V2}
use Rattle.mj_rou.specs.Words.{Each, IsRoutineWorded}
use Rattle.mj_load.specs.Image.{Loaded, routines_of, program_of}
use Rattle.mj_dev.specs.Shelves.{Shelf, AreRising, count_of, principal, left_of}
use Rattle.mj_jobs.specs.Rows.{rows_limit}
use Rattle.mj_sys.specs.Opening.{opening_of}
use Rattle.mj_sys.specs.Shared.{Shared}
use Rattle.mj_sys.specs.declared.event.Event.{Event}
use Rattle.mj_sys.specs.History.{History, log_of}
use Rattle.mj_core.specs.Runs.{IsRun, ArePlacedIn}
use Rattle.mj_replica.specs.Replays.{history_of}
use Rattle.mj_replica.specs.Placed.{spot_for, AllCameFrom, SaysPlaced}
use Rattle.mj_replica.specs.Replicas.{AreWhole, IsLongAt}
use Rattle.mj_replica.specs.declared.replaying.Verdict.{Verdict}
use Rattle.mj_replica.specs.declared.replaying.Verdict.TheVariants as verdicts
use Rattle.mj_trace.specs.declared.form.Form.TheVariants.{Second}
use Rattle.mj_trace.specs.Trace.{Traced, trace_text}
use Rattle.mj_trace.specs.Lines.{reading_of, events_limit, IsTrace}
use Rattle.mj_trace.specs.Sized.{IsSized}
use Rattle.mj_replay.specs.Traces.{bare_start, opening_in, IsMigrated}

-- ---- what is written

-- the entries at which jobs start
abbrev pub entries_of : List Started → List Entry
entries_of starts = map (λ s. s.entry) starts

-- an event that comes behind a history: its job, the place of its ask, which is as far among the job's as there are events of that before, what was asked, and
-- what the job was told
abbrev pub noted_at : (ℕ → List (Option Place)) → History → Event → Noted
noted_at places front e =
    record { job = e.job; spot = spot_for (slice_index_or (places e.job) (length (log_of e.job front)) None); ask = e.ask; reply = e.reply }

-- so with each event of a history that goes on behind another, and with each of a whole one
abbrev pub noted_behind : (ℕ → List (Option Place)) → History → History → List Noted
noted_behind places front [] = []
noted_behind places front (e ∷ history) = noted_at places front e ∷ noted_behind places (front ++ e ∷ []) history

abbrev pub noted_of : (ℕ → List (Option Place)) → History → List Noted
noted_of places history = noted_behind places [] history

-- the trace of a run that began with these devices and starts, where texts have this limit
abbrev pub trace_of : Limit → List Shelf → List Started → List Noted → Traced
trace_of limit pool starts events = record { form = Second limit; pool = map count_of pool; starts = entries_of starts; events = events }

-- each text of a trace is one of this limit. None is above the greater one
abbrev pub IsWithin : Limit → Traced → Type 0
IsWithin V1 t = (list_all (λ d. is_within V1 d.0) t.pool ≡ true) × (list_all (λ e. is_ask_within V1 e.ask && is_reply_within V1 e.reply) t.events ≡ true)
IsWithin V2 t = ⊤

-- ---- what a run begins with

-- What a run whose trace is written begins with: globals that can be listed; devices by names that rise, none of them taken; and the first jobs, which
-- start at entries that can be written, without values: one at least, no more than there may be, and each has its principal device.
pub record IsBeginning (globals : Content) (pool : List Shelf) (starts : List Started) : Type 0 where
  pub listed : is_content globals ≡ true
  pub rising : AreRising pool
  pub whole : AreWhole pool
  pub entries : list_all is_entry (entries_of starts) ≡ true
  pub bare : starts ≡ map bare_start (entries_of starts)
  pub some : 1 ≤ length starts
  pub few : length starts ≤ rows_limit
  pub fits : length starts ≤ left_of principal pool

-- ---- what is read

-- What a replay of a run says: that it is one. Or it names an event behind whose job's last reply that job goes on for so many turns that it may be taken
-- for one that asks nothing more.
abbrev pub SaysSame : Loaded → Shared → History → Verdict → Type 0
SaysSame image opening history verdicts.Same = ⊤
SaysSame image opening history (verdicts.Differs at) = IsLongAt image opening history at

-- These bytes are the trace of a run: one that can be written, and is within the sizes of its values. They are read as this trace where there may be so
-- many events, over the globals it has the opening of the run, its events are those of the run, each from the place where its ask came from, and a replay
-- says so.
pub record IsReadBack (most : ℕ) (image : Loaded) (opening : Shared) (history : History) (bytes : List ℕ) : Type 0 where
  pub trace : Traced
  pub formed : IsTrace trace
  pub sized : IsSized trace
  pub text : bytes ≡ trace_text trace
  pub read : reading_of most bytes ≡ Ok trace
  pub opens : opening_in opening.globals trace ≡ opening
  pub events : history_of trace.events ≡ history
  pub places : AllCameFrom (program_of image) opening [] trace.events
  pub same : (verdict : Verdict) → SaysPlaced (program_of image) (opening_in opening.globals trace) trace.events verdict → SaysSame image opening history verdict

-- What is written of a run is read back, where the names of its routines are words, as they are in routines that were read, the places are those of its asks,
-- it has no more events than are read, nor than a trace may have, its values are within their sizes, as those are that lie in memory, and within the limit of the routines, as
-- all are within the greater one.
abbrev pub AreReadBack : Type 0
AreReadBack =
    (most : ℕ) (image : Loaded) (globals : Content) (pool : List Shelf) (starts : List Started) (history : History) (places : ℕ → List (Option Place))
    → Each IsRoutineWorded (routines_of image) → IsBeginning globals pool starts → IsRun (program_of image) (opening_of globals pool starts) history
    → ArePlacedIn (program_of image) (opening_of globals pool starts) history places → length history ≤ most → most ≤ events_limit
    → IsSized (trace_of image.bounds.limit pool starts (noted_of places history))
    → IsWithin image.bounds.limit (trace_of image.bounds.limit pool starts (noted_of places history))
    → IsReadBack most image (opening_of globals pool starts) history (trace_text (trace_of image.bounds.limit pool starts (noted_of places history)))

-- A trace can be written: what is written, within the sizes of its values, is read as this trace where there may be so many events, and a replay over these
-- globals says that it is a run.
pub record IsWrittenAgain (most : ℕ) (image : Loaded) (globals : Content) (new : Traced) : Type 0 where
  pub formed : IsTrace new
  pub read : IsSized new → reading_of most (trace_text new) ≡ Ok new
  pub same : (verdict : Verdict) → SaysPlaced (program_of image) (opening_in globals new) new.events verdict
      → SaysSame image (opening_in globals new) (history_of new.events) verdict

-- So with a trace that was brought to today's form, where the names of the routines are words and the globals can be listed, as those are that were read, and
-- the trace that it was made of has no more events than are read.
abbrev pub AreMigratedReadBack : Type 0
AreMigratedReadBack =
    (most : ℕ) (image : Loaded) (globals : Content) (old new : Traced) → Each IsRoutineWorded (routines_of image) → is_content globals ≡ true → IsTrace old
    → length old.events ≤ most → IsMigrated (program_of image) globals old new → IsWrittenAgain most image globals new
