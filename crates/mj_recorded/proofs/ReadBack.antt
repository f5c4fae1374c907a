-- What is written of a run is read back, and is the same run.
use Rattle.std.proofs.Common.{◌≡◌, ◌∙◌, ◌≤◌, ◌⊎◌, inl, inr, ℕ, zero, suc, Bool, true, false, ◌&&◌, List, [], ◌∷◌, ◌++◌, length, map, Option, Some, None, refl, sym, ap, subst, arith, append_assoc, append-nil}
use Rattle.std.specs.Prelude.{replicate, slice_get, take, option_map}
use Rattle.std.proofs.lemmas.Option.{slice_get-map}
use Rattle.std.specs.List.{list_all}
use Rattle.std.proofs.lemmas.List.{length-map}
use Rattle.mj_store.specs.Nodes.{is_empty}
use Rattle.mj_store.specs.Questions.{Content}
use Rattle.mj_ask.specs.Within.{is_ask_within, is_reply_within}
use Rattle.mj_ask.specs.declared.noted.Noted.{Noted}
use Rattle.mj_ask.specs.declared.noted.Spot.{Spot}
use Rattle.mj_semantics.specs.Program.{Program}
use Rattle.mj_semantics.specs.State.{Place}
use Rattle.mj_ask.specs.Fits.{is_reply_to}
use Rattle.mj_ask.specs.Formed.{is_ask, is_reply}
use Rattle.mj_ask.specs.Started.{Started}
use Rattle.mj_ask.specs.Written.{is_entry}
use Rattle.mj_ask.proofs.Lists.{both_true, and_true}
use Rattle.mj_rou.specs.Words.{Each, IsRoutineWorded}
use Rattle.mj_load.specs.Image.{Loaded, routines_of, program_of}
use Rattle.mj_dev.specs.Shelves.{Shelf, count_of, principal, left_of}
use Rattle.mj_jobs.specs.Rows.{opened}
use Rattle.mj_sys.specs.declared.event.Event.{Event}
use Rattle.mj_sys.specs.Opening.{opening_of}
use Rattle.mj_sys.specs.Shared.{Shared}
use Rattle.mj_sys.specs.History.{History, state_of}
use Rattle.mj_core.specs.Runs.{IsRun, ArePlacedIn}
use Rattle.mj_replica.specs.Replays.{event_of, history_of, IsUnmade}
use Rattle.mj_replica.specs.Replicas.{IsLongAt}
use Rattle.mj_replica.specs.Placed.{spot_place, CameFrom, AllCameFrom, IsElsewhere, SaysPlaced}
use Rattle.mj_replica.specs.declared.replaying.Verdict.{Verdict}
use Rattle.mj_replica.specs.declared.replaying.Verdict.TheVariants as verdicts
use Rattle.mj_replica.proofs.Rounds.{is_long}
use Rattle.mj_text.specs.Limit.{is_within}
use Rattle.mj_text.specs.declared.limit.Limit.{Limit}
use Rattle.mj_text.specs.declared.limit.Limit.TheVariants.{V1, V2}
use Rattle.mj_trace.specs.declared.form.Form.TheVariants.{Second}
use Rattle.mj_trace.specs.Trace.{Traced}
use Rattle.mj_trace.specs.Lines.{is_event, is_spot, starts_limit, events_limit, IsTrace}
use Rattle.mj_trace.specs.Lines as lines
use Rattle.mj_trace.specs.Sized.{IsSized}
use Rattle.mj_trace.specs.Laws.Whole.{is_read}
use Rattle.mj_replay.specs.Traces.{opening_in}
use Rattle.mj_recorded.specs.Laws.{CanBeWritten, IsStarted, AreAccessesFormed, IsFormed}
use Rattle.mj_recorded.specs.Traces.{entries_of, noted_at, noted_behind, noted_of, trace_of, IsWithin, IsBeginning, SaysSame, IsReadBack, AreReadBack}
use Rattle.mj_recorded.proofs.Histories.{are_recorded}
use Rattle.mj_recorded.proofs.Placing.{whole_came, whole_spotted, one_place}
use Rattle.mj_recorded.proofs.Pools.{names_rise, principals_counted, filled_again}

-- ---- what is shared when it begins

pub rows_formed : (starts : List Started) → list_all is_entry (entries_of starts) ≡ true → Each IsStarted (map opened starts)
rows_formed [] h = tt
rows_formed (s ∷ starts) h = let k = both_true (is_entry s.entry) (list_all is_entry (entries_of starts)) h in (k.0, rows_formed starts k.1)

pub none_open : (n : ℕ) → Each AreAccessesFormed (replicate n None)
none_open zero = tt
none_open (suc n) = (tt, none_open n)

opening_formed : (globals : Content) (pool : List Shelf) (starts : List Started) → IsBeginning globals pool starts → IsFormed (opening_of globals pool starts)
opening_formed globals pool starts begins =
    record { globals = begins.listed; rows = rows_formed starts begins.entries; transactions = none_open (length starts) }

-- ---- events

event_formed : (limit : Limit) (e : Event) (spot : Option Spot) → CanBeWritten e → is_spot (Second limit) spot ≡ true
    → (is_ask_within limit e.ask && is_reply_within limit e.reply) ≡ true
    → is_event (Second limit) (record { job = e.job; spot = spot; ask = e.ask; reply = e.reply }) ≡ true
event_formed limit e spot h placed small =
    let ask : is_ask e.ask ≡ true = h.0 in
    let reply : is_reply e.reply ≡ true = h.1 in
    let told : is_reply_to e.ask e.reply ≡ true = h.2 in
    let both = both_true (is_ask_within limit e.ask) (is_reply_within limit e.reply) small in
    λ i. placed i && (ask i && reply i && told i) && both.0 i && both.1 i

are_small : Limit → List Noted → Bool
are_small limit es = list_all (λ e. is_ask_within limit e.ask && is_reply_within limit e.reply) es

are_spotted : Limit → List Noted → Bool
are_spotted limit es = list_all (λ e. is_spot (Second limit) e.spot) es

as_spotted : (limit : Limit) (es : List Noted) → list_all (λ (n : Noted). is_spot (Second limit) n.spot) es ≡ true → are_spotted limit es ≡ true
unfolding are_spotted
as_spotted limit es h = h

events_formed : (limit : Limit) (places : ℕ → List (Option Place)) (front history : History) → Each CanBeWritten history
    → are_spotted limit (noted_behind places front history) ≡ true → are_small limit (noted_behind places front history) ≡ true
    → list_all (is_event (Second limit)) (noted_behind places front history) ≡ true
unfolding are_small are_spotted
events_formed limit places front [] h spots small = refl
events_formed limit places front (e ∷ history) h spots small =
    let n : Noted = noted_at places front e in
    let behind : List Noted = noted_behind places (front ++ e ∷ []) history in
    let s = both_true (is_ask_within limit e.ask && is_reply_within limit e.reply) (are_small limit behind) small in
    let p = both_true (is_spot (Second limit) n.spot) (are_spotted limit behind) spots in
    and_true (is_event (Second limit) n) (list_all (is_event (Second limit)) behind) (event_formed limit e n.spot h.0 p.0 s.0)
    (events_formed limit places (front ++ e ∷ []) history h.1 p.1 s.1)

-- what each element has
each_true : {A : Type 0} (xs : List A) → list_all (λ x. true) xs ≡ true
each_true [] = refl
each_true (x ∷ xs) = each_true xs

-- all texts of a trace are within its limit
small_events : (limit : Limit) (t : Traced) → IsWithin limit t → are_small limit t.events ≡ true
unfolding are_small
small_events V1 t h = h.1
small_events V2 t h = each_true t.events

small_names : (limit : Limit) (t : Traced) → IsWithin limit t → list_all (λ d. is_within limit d.0) t.pool ≡ true
small_names V1 t h = h.0
small_names V2 t h = each_true t.pool

events_again : (places : ℕ → List (Option Place)) (front history : History) → history_of (noted_behind places front history) ≡ history
events_again places front [] = refl
events_again places front (e ∷ history) = ap (λ (h : History). e ∷ h) (events_again places (front ++ e ∷ []) history)

as_many_noted : (places : ℕ → List (Option Place)) (front history : History) → length (noted_behind places front history) ≡ length history
as_many_noted places front [] = refl
as_many_noted places front (e ∷ history) = ap suc (as_many_noted places (front ++ e ∷ []) history)

-- ---- starts

some_there : {A : Type 0} (xs : List A) → 1 ≤ length xs → is_empty xs ≡ false
some_there [] h = absurd (omega (arith, h))
some_there (x ∷ xs) h = refl

-- ---- the whole

-- each event came from where it is recorded to, so none from elsewhere
at_place : (program : Program) (opening : Shared) (front : History) (events : List Noted) (at : ℕ) (e : Noted) → AllCameFrom program opening front events
    → slice_get events at ≡ Some e → CameFrom program opening (front ++ take at (history_of events)) (event_of e) (spot_place e.spot)
at_place program opening front [] at e all is = absurd (let no : None ≡ Some e = is in cc)
at_place program opening front (x ∷ events) zero e all is =
    let same : x ≡ e = (let s : Some x ≡ Some e = is in cc) in
    let P : Noted → Type 0 = λ n. CameFrom program opening (front ++ []) (event_of n) (spot_place n.spot) in
    subst P same (subst (λ (h : History). CameFrom program opening h (event_of x) (spot_place x.spot)) (sym (append-nil front)) all.0)
at_place program opening front (x ∷ events) (suc at) e all is =
    subst (λ (h : History). CameFrom program opening h (event_of e) (spot_place e.spot)) (append_assoc front (event_of x ∷ []) (take at (history_of events)))
    (at_place program opening (front ++ event_of x ∷ []) events at e all.1 is)

not_elsewhere : (program : Program) (opening : Shared) (events : List Noted) (at : ℕ) (e : Noted) → AllCameFrom program opening [] events
    → slice_get events at ≡ Some e → IsElsewhere program opening (take at (history_of events)) e → ⊥
not_elsewhere program opening events at e all is (place, came, other) =
    other (one_place program opening (take at (history_of events)) (event_of e) place (spot_place e.spot) came (at_place program opening [] events at e all is))

event_there : (events : List Noted) (at : ℕ) (e : Noted) → slice_get events at ≡ Some e → slice_get (history_of events) at ≡ Some (event_of e)
event_there events at e is = slice_get-map event_of events at ∙ ap (option_map event_of) is

-- a replay of a run, each of whose events came from where it is recorded to, says that it is one
pub says_same : (image : Loaded) (opening : Shared) (events : List Noted) → IsRun (program_of image) opening (history_of events)
    → AllCameFrom (program_of image) opening [] events → (verdict : Verdict) → SaysPlaced (program_of image) opening events verdict
    → SaysSame image opening (history_of events) verdict
says_same image opening events run all verdicts.Same says = tt
says_same image opening events run all (verdicts.Differs at) says = by says.apart
  where
    by : IsUnmade (program_of image) opening (take at (history_of events)) (event_of says.event)
        ⊎ IsElsewhere (program_of image) opening (take at (history_of events)) says.event → IsLongAt image opening (history_of events) at
    by (inl unmade) =
        is_long image opening (history_of events) at (event_of says.event) (event_there events at says.event says.there) run unmade
    by (inr elsewhere) = absurd (not_elsewhere (program_of image) opening events at says.event all says.there elsewhere)

module _ (image : Loaded) (globals : Content) (pool : List Shelf) (starts : List Started) (history : History) (places : ℕ → List (Option Place))
    (worded : Each IsRoutineWorded (routines_of image)) (begins : IsBeginning globals pool starts)
    (run : IsRun (program_of image) (opening_of globals pool starts) history) (placed : ArePlacedIn (program_of image) (opening_of globals pool starts) history places)
    (short : length history ≤ events_limit)
    (within : IsWithin image.bounds.limit (trace_of image.bounds.limit pool starts (noted_of places history))) where
  abbrev opening : Shared
  opening = opening_of globals pool starts

  abbrev events : List Noted
  events = noted_of places history

  abbrev trace : Traced
  trace = trace_of image.bounds.limit pool starts events

  recorded : Each CanBeWritten history × IsFormed (state_of opening history)
  recorded = are_recorded (program_of image) opening history worded (opening_formed globals pool starts begins) run

  as_many : length (entries_of starts) ≡ length starts
  as_many = length-map starts (λ s. s.entry)

  formed_so : IsTrace trace
  formed_so = record {
    devices = names_rise pool begins.rising;
    starts = begins.entries;
    started = some_there (entries_of starts) (let some = begins.some in omega (arith, some, as_many));
    starts_few = (let few = begins.few in omega (arith, few, as_many));
    sessions = (let fits = begins.fits in let counted = principals_counted pool in omega (arith, fits, counted, as_many));
    named = small_names image.bounds.limit trace within;
    events = events_formed image.bounds.limit places [] history recorded.0
        (as_spotted image.bounds.limit events (whole_spotted (program_of image) opening history places run placed image.bounds.limit worded recorded.0 recorded.1))
        (small_events image.bounds.limit trace within);
    events_few = (let many = as_many_noted places [] history in omega (arith, short, many));
  }

  opens_so : opening_in globals trace ≡ opening
  opens_so =
      let devices = filled_again pool begins.whole begins.rising in
      let jobs = sym begins.bare in
      λ i. opening_of globals (devices i) (jobs i)

  places_so : AllCameFrom (program_of image) opening [] events
  places_so = whole_came (program_of image) opening history places run placed

  again : history_of events ≡ history
  again = events_again places [] history

  same_so : (verdict : Verdict) → SaysPlaced (program_of image) (opening_in globals trace) events verdict → SaysSame image opening history verdict
  same_so verdict says =
      let P : Shared → Type 0 = λ o. SaysPlaced (program_of image) o events verdict in
      let R : History → Type 0 = λ h. IsRun (program_of image) opening h in
      let S : History → Type 0 = λ h. SaysSame image opening h verdict in
      subst S again (says_same image opening events (subst R (sym again) run) places_so verdict (subst P opens_so says))

pub read_back : AreReadBack
read_back most image globals pool starts history places worded begins run placed short few sized within =
    let short_so : length history ≤ events_limit = omega (arith, short, few) in
    let is = formed_so image globals pool starts history places worded begins run placed short_so within in
    let many : length (noted_of places history) ≤ most = (let same = as_many_noted places [] history in omega (arith, short, same)) in
    record {
      trace = trace_of image.bounds.limit pool starts (noted_of places history);
      formed = is;
      sized = sized;
      text = refl;
      read = is_read most (trace_of image.bounds.limit pool starts (noted_of places history)) is sized many;
      opens = opens_so image globals pool starts history places worded begins run placed short_so within;
      events = events_again places [] history;
      places = whole_came (program_of image) (opening_of globals pool starts) history places run placed;
      same = same_so image globals pool starts history places worded begins run placed short_so within;
    }
