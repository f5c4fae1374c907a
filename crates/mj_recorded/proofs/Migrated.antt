-- A trace that was brought to today's form is read back.
use Rattle.std.specs.List.{list_all}
use Rattle.std.proofs.Common.{◌≡◌, ◌∙◌, ℕ, Bool, true, false, ◌&&◌, List, [], ◌∷◌, ◌++◌, length, map, Option, ◌≤◌, refl, sym, ap, subst, arith, append_assoc, append-nil}
use Rattle.std.proofs.lemmas.List.{length-map}
use Rattle.mj_store.specs.Questions.{Content}
use Rattle.mj_ask.specs.Fitting.{is_content}
use Rattle.mj_ask.specs.Started.{Started}
use Rattle.mj_ask.specs.Within.{is_ask_within, is_reply_within}
use Rattle.mj_ask.specs.Written.{is_entry}
use Rattle.mj_ask.specs.declared.entry.Entry.{Entry}
use Rattle.mj_ask.specs.declared.noted.Noted.{Noted}
use Rattle.mj_ask.proofs.Lists.{both_true, and_true}
use Rattle.mj_text.specs.Limit.{is_within}
use Rattle.mj_text.specs.declared.limit.Limit.{Limit}
use Rattle.mj_semantics.specs.Program.{Program}
use Rattle.mj_semantics.specs.State.{Place}
use Rattle.mj_rou.specs.Words.{Each, IsRoutineWorded}
use Rattle.mj_written.proofs.Runs.{are_written}
use Rattle.mj_load.specs.Image.{Loaded, routines_of, program_of}
use Rattle.mj_jobs.specs.Rows.{row_at}
use Rattle.mj_jobvm.specs.Run.{replies_of}
use Rattle.mj_sys.specs.declared.event.Event.{Event}
use Rattle.mj_sys.specs.Shared.{Shared}
use Rattle.mj_sys.specs.History.{History, state_of, log_of}
use Rattle.mj_sys.proofs.Rows.{rows_kept, state_of_append}
use Rattle.mj_core.specs.Runs.{IsRun, start_in}
use Rattle.mj_replica.specs.Replays.{event_of, history_of}
use Rattle.mj_replica.specs.Placed.{spot_place, CameFrom, AllCameFrom}
use Rattle.mj_trace.specs.declared.form.Form.{Form}
use Rattle.mj_trace.specs.declared.form.Form.TheVariants.{Second}
use Rattle.mj_trace.specs.Trace.{Traced, limit_of}
use Rattle.mj_store.specs.Nodes.{is_empty}
use Rattle.mj_trace.specs.Lines.{are_told, is_event, is_spot, rises, principal, IsTrace}
use Rattle.mj_trace.specs.Sized.{IsSized}
use Rattle.mj_trace.specs.Laws.Whole.{is_read}
use Rattle.mj_replay.specs.Traces.{bare_start, opening_in, IsMigrated}
use Rattle.mj_recorded.specs.Laws.{CanBeWritten, IsStarted, IsFormed}
use Rattle.mj_recorded.specs.Traces.{entries_of, AreMigratedReadBack}
use Rattle.mj_recorded.proofs.Histories.{are_recorded, replies_written, row_started}
use Rattle.mj_recorded.proofs.Placing.{front_each, spot_of_line, stood_at}
use Rattle.mj_recorded.proofs.ReadBack.{rows_formed, none_open, says_same}

-- ---- what is shared when it begins

entries_again : (entries : List Entry) → entries_of (map bare_start entries) ≡ entries
entries_again [] = refl
entries_again (e ∷ entries) = ap (λ l. e ∷ l) (entries_again entries)

opening_formed : (globals : Content) (trace : Traced) → is_content globals ≡ true → list_all is_entry trace.starts ≡ true → IsFormed (opening_in globals trace)
opening_formed globals trace listed entries = record {
  globals = listed;
  rows = rows_formed (map bare_start trace.starts) (ap (list_all is_entry) (entries_again trace.starts) ∙ entries);
  transactions = none_open (length (map bare_start trace.starts));
}

-- ---- events

-- what was asked and told can be written, whatever place is written with it
abbrev is_sound : Limit → Event → Bool
is_sound limit e = are_told e.ask e.reply && is_ask_within limit e.ask && is_reply_within limit e.reply

event_sound : (form : Form) (e : Noted) → is_event form e ≡ true → is_sound (limit_of form) (event_of e) ≡ true
event_sound form e is =
    let a = both_true (is_spot form e.spot && are_told e.ask e.reply && is_ask_within (limit_of form) e.ask) (is_reply_within (limit_of form) e.reply) is in
    let b = both_true (is_spot form e.spot && are_told e.ask e.reply) (is_ask_within (limit_of form) e.ask) a.0 in
    let c = both_true (is_spot form e.spot) (are_told e.ask e.reply) b.0 in
    λ i. c.1 i && b.1 i && a.1 i

sound_event : (limit : Limit) (e : Noted) → is_sound limit (event_of e) ≡ true → is_spot (Second limit) e.spot ≡ true → is_event (Second limit) e ≡ true
sound_event limit e sound spot =
    let a = both_true (are_told e.ask e.reply && is_ask_within limit e.ask) (is_reply_within limit e.reply) sound in
    let b = both_true (are_told e.ask e.reply) (is_ask_within limit e.ask) a.0 in
    λ i. spot i && b.0 i && b.1 i && a.1 i

sound_events : (form : Form) (events : List Noted) → list_all (is_event form) events ≡ true → list_all (is_sound (limit_of form)) (history_of events) ≡ true
sound_events form [] each = refl
sound_events form (e ∷ events) each =
    let whole = both_true (is_event form e) (list_all (is_event form) events) each in
    and_true (is_sound (limit_of form) (event_of e)) (list_all (is_sound (limit_of form)) (history_of events)) (event_sound form e whole.0) (sound_events form events whole.1)

noted_events : (limit : Limit) (events : List Noted) → list_all (is_sound limit) (history_of events) ≡ true
    → list_all (λ (n : Noted). is_spot (Second limit) n.spot) events ≡ true → list_all (is_event (Second limit)) events ≡ true
noted_events limit [] sound spots = refl
noted_events limit (e ∷ events) sound spots =
    let s = both_true (is_sound limit (event_of e)) (list_all (is_sound limit) (history_of events)) sound in
    let p = both_true (is_spot (Second limit) e.spot) (list_all (λ (n : Noted). is_spot (Second limit) n.spot) events) spots in
    and_true (is_event (Second limit) e) (list_all (is_event (Second limit)) events) (sound_event limit e s.0 p.0) (noted_events limit events s.1 p.1)

module _ (program : Program) (opening : Shared) (history : History) (worded : Each IsRoutineWorded program.routines) (written : Each CanBeWritten history)
    (formed : IsFormed (state_of opening history)) (limit : Limit) where
  -- where an event came from can be written
  spotted : (front rest : History) (e : Noted) → history ≡ front ++ event_of e ∷ rest → CameFrom program opening front (event_of e) (spot_place e.spot)
      → is_spot (Second limit) e.spot ≡ true
  spotted front rest e whole (locals, at, (row, there, stood), is) =
      let kept = (rows_kept (state_of opening (front ++ event_of e ∷ [])) rest).starts e.job row there in
      let final : state_of opening history ≡ state_of (state_of opening (front ++ event_of e ∷ [])) rest =
      ap (state_of opening) (whole ∙ sym (append_assoc front (event_of e ∷ []) rest)) ∙ state_of_append opening (front ++ event_of e ∷ []) rest in
      let last : row_at (state_of opening history).rows e.job ≡ _ = ap (λ (s : Shared). row_at s.rows e.job) final ∙ kept.1 in
      let entry : is_entry row.start.entry ≡ true =
      subst (λ (s : Started). is_entry s.entry ≡ true) kept.2 (row_started (state_of opening history).rows e.job kept.0 formed.rows last) in
      let asked = stood_at program opening front (event_of e) (start_in e.job row.start) locals at stood in
      let before : Each CanBeWritten front = front_each CanBeWritten front (event_of e ∷ rest) (subst (λ (h : History). Each CanBeWritten h) whole written) in
      spot_of_line limit e.spot at is
      (are_written program (start_in e.job row.start) asked.1 (replies_of (log_of e.job front)) asked.0 locals at worded entry (replies_written e.job front before) asked.2).2

  all_spotted : (front : History) (events : List Noted) → history ≡ front ++ history_of events → AllCameFrom program opening front events
      → list_all (λ (n : Noted). is_spot (Second limit) n.spot) events ≡ true
  all_spotted front [] whole all = refl
  all_spotted front (e ∷ events) whole all =
      and_true (is_spot (Second limit) e.spot) (list_all (λ (n : Noted). is_spot (Second limit) n.spot) events) (spotted front (history_of events) e whole all.0)
      (all_spotted (front ++ event_of e ∷ []) events (whole ∙ sym (append_assoc front (event_of e ∷ []) (history_of events))) all.1)

-- ---- the whole

limit_again : (form : Form) (limit : Limit) → form ≡ Second limit → limit_of form ≡ limit
limit_again form limit e = ap limit_of e

as_many_events : (old new : List Noted) → history_of new ≡ history_of old → length new ≡ length old
as_many_events old new same = sym (length-map new event_of) ∙ ap (λ (h : History). length h) same ∙ length-map old event_of

is_trace : (image : Loaded) (globals : Content) (old new : Traced) → Each IsRoutineWorded (routines_of image) → is_content globals ≡ true → IsTrace old
    → IsMigrated (program_of image) globals old new → IsTrace new
is_trace image globals old new worded listed was is =
    let limit : Limit = limit_of old.form in
    let entries : list_all is_entry new.starts ≡ true = ap (list_all is_entry) is.starts ∙ was.starts in
    let recorded = are_recorded (program_of image) (opening_in globals new) (history_of new.events) worded (opening_formed globals new listed entries) is.run in
    let sound : list_all (is_sound limit) (history_of new.events) ≡ true = ap (list_all (is_sound limit)) is.events ∙ sound_events old.form old.events was.events in
    let spots = all_spotted (program_of image) (opening_in globals new) (history_of new.events) worded recorded.0 recorded.1 limit [] new.events refl is.from in
    record {
      devices = ap rises is.pool ∙ was.devices;
      starts = entries;
      started = ap is_empty is.starts ∙ was.started;
      starts_few = (let many = ap (λ (l : List Entry). length l) is.starts in let few = was.starts_few in omega (arith, many, few));
      sessions =
          (let many = ap (λ (l : List Entry). length l) is.starts in let same = ap principal is.pool in let fits = was.sessions in omega (arith, many, same, fits));
      named =
          ap (λ (f : Form). list_all (λ (d : List ℕ × ℕ). is_within (limit_of f) d.0) new.pool) is.form
          ∙ ap (list_all (λ (d : List ℕ × ℕ). is_within limit d.0)) is.pool ∙ was.named;
      events = ap (λ (f : Form). list_all (is_event f) new.events) is.form ∙ noted_events limit new.events sound spots;
      events_few = (let many = as_many_events old.events new.events is.events in let few = was.events_few in omega (arith, many, few));
    }

pub read_back : AreMigratedReadBack
read_back most image globals old new worded listed was few is =
    let formed = is_trace image globals old new worded listed was is in
    let many : length new.events ≤ most = (let same = as_many_events old.events new.events is.events in omega (arith, few, same)) in
    record {
      formed = formed;
      read = λ sized. is_read most new formed sized many;
      same = says_same image (opening_in globals new) new.events is.run is.from;
    }
