-- A trace, run again event by event.
use Rattle.std.specs.Prelude.{take, replicate, slice_get, if◌then◌else◌}
use Rattle.std.specs.Option.{option_map}
use Rattle.std.specs.List.{slice_index_or}
use Rattle.std.proofs.Common.{◌≡◌, ℕ, zero, suc, ◌+◌, ◌<◌, ◌≤◌, Bool, false, List, [], ◌∷◌, ◌++◌, length, Some, refl, sym, ap, ◌∙◌, subst, arith}
use Rattle.std.proofs.lemmas.List.{take_all, length-map, length-take-le}
use Rattle.std.proofs.lemmas.Option.{slice_get-map, slice_get_within}
use Rattle.mj_ask.specs.declared.ask.Ask.{Ask}
use Rattle.mj_ask.specs.declared.noted.Noted.{Noted}
use Rattle.mj_load.specs.Image.{Loaded, program_of}
use Rattle.mj_jobs.specs.Rows.{rows_limit}
use Rattle.mj_locktab.specs.Locks.{Locks, count_of}
use Rattle.mj_sys.specs.declared.event.Event.{Event}
use Rattle.mj_sys.specs.Shared.{Shared}
use Rattle.mj_sys.specs.History.{History, state_of}
use Rattle.mj_core.specs.Shown.{Shown, was_over}
use Rattle.mj_core.specs.Runs.{IsRun}
use Rattle.mj_replica.specs.Replays.{event_of, history_of, IsUnmade, IsFirstUnmade}
use Rattle.mj_replica.proofs.Rounds.{front_on}
use Rattle.mj_retrace.specs.Retraced.{Spot, innermost, AsksFrom, AreSpots, AreAsked, IsRetraced}
use Rattle.mj_retrace.specs.Made.{MakesAgain}
use Rattle.mj_retrace.specs.Noted.{Note, Gone, changes_locks, noted, gone}
use Rattle.mj_retrace.proofs.Standing.{spots_on}
use Rattle.mj_retrace.proofs.Locking.{IsToldSo}
use Rattle.mj_retrace.proofs.Holding.{AreHeld, all_held, none_held, held_next}

-- so many events of a trace were made again, and what was noted of them is so
pub record IsThrough (image : Loaded) (opening : Shared) (events : List Noted) (k : ℕ) (core : Shown) (spots : List Spot) (holds : List Note) (past : List Gone)
    : Type 0 where
  pub same : core.image ≡ image
  pub made : core.history ≡ take k (history_of events)
  pub going : core.over ≡ replicate rows_limit false
  pub come : AreSpots (program_of image) opening core.history spots
  pub held : AreHeld opening core.history holds past

no_spots : (image : Loaded) (opening : Shared) → AreSpots (program_of image) opening [] []
no_spots image opening = record { each = refl; are = λ place spot there. cc }

-- nobody's end was seen
never_over : (n k : ℕ) → slice_index_or (replicate n false) k false ≡ false
never_over zero k = refl
never_over (suc n) zero = refl
never_over (suc n) (suc k) = never_over n k

pub none_over : (over : List Bool) (job : ℕ) → over ≡ replicate rows_limit false → was_over over job ≡ false
none_over over zero is = refl
none_over over (suc k) is = ap (λ (o : List Bool). slice_index_or o k false) is ∙ never_over rows_limit k

-- there is room for one event more
pub through_short : (image : Loaded) (opening : Shared) (events : List Noted) (k : ℕ) (core : Shown) (spots : List Spot) (holds : List Note) (past : List Gone)
    → IsThrough image opening events k core spots holds past → k < length events → length events ≤ image.bounds.events → length core.history < core.image.bounds.events
through_short image opening events k core spots holds past is less short =
    let same = length-map events event_of in
    let long : length core.history ≡ k = ap (λ (h : History). length h) is.made ∙ length-take-le k (history_of events) (omega (arith, same, less)) in
    let room : core.image.bounds.events ≡ image.bounds.events = ap (λ (i : Loaded). i.bounds.events) is.same in
    omega (arith, long, less, short, room)

-- none was made yet
pub through_none : (opening : Shared) (events : List Noted) (core : Shown) (spots : List Spot) (holds : List Note) (past : List Gone) → core.history ≡ []
    → core.over ≡ replicate rows_limit false → opening.locks ≡ [] → spots ≡ [] → holds ≡ [] → past ≡ [] → IsThrough core.image opening events 0 core spots holds past
through_none opening events core spots holds past none going free no_spot no_hold no_past =
    let P : History → Type 0 = λ h. AreSpots (program_of core.image) opening h [] in
    let Q : History → Type 0 = λ h. AreHeld opening h [] [] in
    let begins : IsThrough core.image opening events 0 core [] [] [] = record {
      same = refl;
      made = none;
      going = going;
      come = subst P (sym none) (no_spots core.image opening);
      held = subst Q (sym none) (none_held opening (λ job name. ap (λ (l : Locks). count_of l job name) free));
    } in
    let R : List Spot → List Note → List Gone → Type 0 = λ s h p. IsThrough core.image opening events 0 core s h p in
    subst (λ s. R s holds past) (sym no_spot) (subst (λ h. R [] h past) (sym no_hold) (subst (λ p. R [] [] p) (sym no_past) begins))

module _ (image : Loaded) (opening : Shared) (events : List Noted) (k : ℕ) (e : Noted) (there : slice_get events k ≡ Some e)
    (old new : Shown) (spots : List Spot) (holds : List Note) (past : List Gone) (is : IsThrough image opening events k old spots holds past)
    (made : MakesAgain old.image opening old.history e.job e.ask e.reply new) where
  abbrev event : Event
  event = event_of e

  in_history : slice_get (history_of events) k ≡ Some event
  in_history = slice_get-map event_of events k ∙ ap (option_map event_of) there

  long : length old.history ≡ k
  long =
      let less = slice_get_within (history_of events) k event in_history in
      ap (λ (h : History). length h) is.made ∙ length-take-le k (history_of events) (omega (arith, less))

  grown : new.history ≡ take (k + 1) (history_of events)
  grown = made.more ∙ ap (λ (h : History). h ++ event ∷ []) is.made ∙ sym (front_on (history_of events) k event in_history)

  more_spots : AreSpots (program_of image) opening new.history (spots ++ innermost made.at.places ∷ [])
  more_spots =
      let P : History → Type 0 = λ h. AreSpots (program_of image) opening h (spots ++ innermost made.at.places ∷ []) in
      let Q : Loaded → Type 0 = λ i. AsksFrom (program_of i) opening old.history e.job e.ask (innermost made.at.places) in
      subst P (sym made.more) (spots_on (program_of image) opening old.history event spots (innermost made.at.places) is.come (subst Q is.same made.asks))

  told : IsToldSo (state_of opening old.history) event
  told = λ shared. (let so = made.told shared in (so.0, state_of opening new.history, so.1))

  -- what is noted by these locks, behind the event at this place
  abbrev AreHeldBy : Locks → ℕ → History → Type 0
  AreHeldBy locks place history =
      AreHeld opening history (noted locks e.job e.ask e.reply place holds) (past ++ (if changes_locks e.ask then gone locks place holds else []))

  more_held : (locks : Locks) → locks ≡ (state_of opening new.history).locks → AreHeldBy locks k new.history
  more_held locks so =
      let behind : (state_of opening (old.history ++ event ∷ [])).locks ≡ locks = ap (λ (h : History). (state_of opening h).locks) (sym made.more) ∙ sym so in
      subst (λ h. AreHeldBy locks k h) (sym made.more)
      (subst (λ n. AreHeldBy locks n (old.history ++ event ∷ [])) long
      (subst (λ l. AreHeldBy l (length old.history) (old.history ++ event ∷ [])) behind (held_next opening old.history event holds past is.held told)))

  -- one event more
  pub through_on : (spots' : List Spot) (locks : Locks) (holds' : List Note) (past' : List Gone) → new.image ≡ old.image → new.over ≡ old.over
      → spots' ≡ spots ++ innermost made.at.places ∷ [] → locks ≡ (state_of opening new.history).locks → holds' ≡ noted locks e.job e.ask e.reply k holds
      → past' ≡ past ++ (if changes_locks e.ask then gone locks k holds else []) → IsThrough image opening events (k + 1) new spots' holds' past'
  through_on spots' locks holds' past' same over put so notes was = record {
    same = same ∙ is.same;
    made = grown;
    going = over ∙ is.going;
    come = subst (λ (s : List Spot). AreSpots (program_of image) opening new.history s) (sym put) more_spots;
    held = subst (λ (h : List Note). AreHeld opening new.history h past') (sym notes)
        (subst (λ (p : List Gone). AreHeld opening new.history (noted locks e.job e.ask e.reply k holds) p) (sym was) (more_held locks so));
  }

-- one that isn't made is the first
pub through_off : (image : Loaded) (opening : Shared) (events : List Noted) (k : ℕ) (e : Noted) → slice_get events k ≡ Some e
    → (core : Shown) (spots : List Spot) (holds : List Note) (past : List Gone) → IsThrough image opening events k core spots holds past
    → IsRun (program_of core.image) opening core.history → IsUnmade (program_of core.image) opening core.history (event_of e)
    → IsFirstUnmade (program_of image) opening (history_of events) k
through_off image opening events k e there core spots holds past is run not =
    let P : Loaded → History → Type 0 = λ i h. IsRun (program_of i) opening h in
    let Q : Loaded → History → Type 0 = λ i h. IsUnmade (program_of i) opening h (event_of e) in
    record {
      event = event_of e;
      there = slice_get-map event_of events k ∙ ap (option_map event_of) there;
      before = subst (λ i. P i (take k (history_of events))) is.same (subst (λ h. P core.image h) is.made run);
      unmade = subst (λ i. Q i (take k (history_of events))) is.same (subst (λ h. Q core.image h) is.made not);
    }

-- where all were made again, all is told
pub all_told : (image : Loaded) (opening : Shared) (events : List Noted) (k : ℕ) (core : Shown) (spots : List Spot) (holds : List Note) (past : List Gone)
    (asked : List (ℕ × Ask)) (stands : List Spot) → IsThrough image opening events k core spots holds past → length events ≤ k
    → IsRun (program_of core.image) opening core.history → AreAsked (program_of core.image) opening core.history asked stands
    → IsRetraced (program_of image) opening (history_of events) spots asked stands holds past
all_told image opening events k core spots holds past asked stands is all run ask =
    let long : length (history_of events) ≤ k = (let same = length-map events event_of in omega (arith, same, all)) in
    let whole : core.history ≡ history_of events = is.made ∙ take_all k (history_of events) long in
    let told : IsRetraced (program_of image) opening core.history spots asked stands holds past =
    (let P : Loaded → Type 0 = λ i. IsRun (program_of i) opening core.history in
    let Q : Loaded → Type 0 = λ i. AreAsked (program_of i) opening core.history asked stands in
    record {
      run = subst P is.same run;
      come = is.come;
      ask = subst Q is.same ask;
      hold = is.held.since;
      all = all_held opening core.history holds past is.held;
      held = is.held.held;
    }) in
    let R : History → Type 0 = λ h. IsRetraced (program_of image) opening h spots asked stands holds past in
    subst R whole told
