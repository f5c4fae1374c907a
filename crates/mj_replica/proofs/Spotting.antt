-- Where events came from that were made again.
use Rattle.std.specs.Prelude.{◌⊎◌, take, slice_get, map}
use Rattle.std.specs.Option.{option_map}
use Rattle.std.proofs.Common.{◌≡◌, ℕ, zero, suc, ◌+◌, ◌-◌, ◌<◌, ◌≤◌, List, [], ◌∷◌, ◌++◌, length, Option, Some, None, refl, sym, ap, ◌∙◌, subst, inl, inr, arith, append_assoc, append-nil}
use Rattle.std.proofs.lemmas.Option.{none-some, same_Some, slice_get_within, get_or_from_slice_get}
use Rattle.std.proofs.lemmas.List.{take_more}
use Rattle.mj_ask.specs.declared.ask.Ask.{Ask}
use Rattle.mj_ask.specs.declared.ask.Reply.{Reply}
use Rattle.mj_ask.specs.declared.noted.Noted.{Noted}
use Rattle.mj_semantics.specs.Program.{Program}
use Rattle.mj_semantics.specs.State.{Place, places, place_of}
use Rattle.mj_semantics.specs.Job.{Start}
use Rattle.mj_load.specs.Image.{Loaded, program_of}
use Rattle.mj_jobs.specs.Rows.{row_at}
use Rattle.mj_jobvm.specs.Run.{Log}
use Rattle.mj_jobvm.specs.Places.{innermost}
use Rattle.mj_jobvm.proofs.Placed.{stands_innermost}
use Rattle.mj_sys.specs.declared.event.Event.{Event}
use Rattle.mj_sys.specs.Shared.{Shared}
use Rattle.mj_sys.specs.History.{History, state_of, log_of}
use Rattle.mj_sys.specs.System.{Recorded}
use Rattle.mj_sys.proofs.Rows.{log_of_append}
use Rattle.mj_core.proofs.Logs.{log_own}
use Rattle.mj_core.specs.Runs.{IsRun, start_in}
use Rattle.mj_replica.specs.Replays.{event_of, history_of, IsUnmade}
use Rattle.mj_replica.specs.Shows.{Stood, HasStood}
use Rattle.mj_replica.specs.Playing.{Playing, AreStaged}
use Rattle.mj_replica.specs.Placed.{spot_place, spot_for, CameFrom, AllCameFrom, IsElsewhere, IsFirstApart, place_in}
use Rattle.mj_replica.proofs.Staging.{row_of, is_run}
use Rattle.mj_replica.proofs.Rounds.{take_on}

-- a place is read as it is written
pub same_spot : (place : Option Place) → spot_place (spot_for place) ≡ place
same_spot None = refl
same_spot (Some p) = refl

-- where a job stands that was found
pub place_got : (jobs : List Playing) (job at : ℕ) (played : Playing) → 1 ≤ job → at ≡ job - 1 → slice_get jobs at ≡ Some played
    → place_in jobs job ≡ Some (place_of played.job.run.at.state)
place_got jobs zero at played one is got = absurd (omega (arith, one))
place_got jobs (suc k) at played one is got =
    let same : at ≡ k = omega (arith, is) in
    ap (option_map (λ (p : Playing). place_of p.job.run.at.state)) (ap (slice_get jobs) (sym same) ∙ got)

-- a log with an entry at its end is one
some_there : (log : Log) (e : Ask × Reply) → log ++ e ∷ [] ≡ [] → ⊥
some_there [] e is = let no : e ∷ [] ≡ [] = is in cc
some_there (x ∷ log) e is = let no : x ∷ (log ++ e ∷ []) ≡ [] = is in cc

module _ (image : Loaded) (opening : Shared) (front : History) (e : Event) (system : Recorded) (jobs : List Playing)
    (staged : AreStaged image opening (front ++ e ∷ []) system jobs) where
  -- the event stands last in its job's log
  its_log : log_of e.job (front ++ e ∷ []) ≡ log_of e.job front ++ (e.ask, e.reply) ∷ []
  its_log = log_of_append e.job front (e ∷ []) ∙ ap (λ l. log_of e.job front ++ l) (log_own e.job e refl)

  not_none : log_of e.job (front ++ e ∷ []) ≡ [] → ⊥
  not_none none = some_there (log_of e.job front) (e.ask, e.reply) (sym its_log ∙ none)

  -- so the job was started
  its_job : (job : ℕ) → e.job ≡ job → (k : ℕ) × (e.job ≡ suc k) × (played : Playing) × (slice_get jobs k ≡ Some played)
  its_job zero is = absurd (not_none (ap (λ j. log_of j (front ++ e ∷ [])) is ∙ staged.zero))
  its_job (suc k) is = by (slice_get jobs k) refl where
    past_get : (xs : List Playing) (i : ℕ) → slice_get xs i ≡ None → length xs ≤ i
    past_get [] i e = omega arith
    past_get (x ∷ xs) zero e = absurd (let no : Some x ≡ None = e in cc)
    past_get (x ∷ xs) (suc i) e = let le = past_get xs i e in omega (arith, le)

    by : (found : Option Playing) → slice_get jobs k ≡ found → (k : ℕ) × (e.job ≡ suc k) × (played : Playing) × (slice_get jobs k ≡ Some played)
    by None past =
        let le = past_get jobs k past in
        absurd (not_none (ap (λ j. log_of j (front ++ e ∷ [])) is ∙ staged.none (suc k) (omega (arith, le))))
    by (Some played) here = (k, is, played, here)

  -- and stands where the event came from
  pub came_from : (place : Option Place) → place_in jobs e.job ≡ Some place → CameFrom (program_of image) opening front e place
  came_from place there =
      let k = (its_job e.job refl).0 in
      let is : e.job ≡ suc k = (its_job e.job refl).1 in
      let played : Playing = (its_job e.job refl).2 in
      let here : slice_get jobs k ≡ Some played = (its_job e.job refl).3 in
      let its = staged.tied k played here in
      let mine = row_of image opening (front ++ e ∷ []) system jobs staged k played here in
      let S : Start → Type 0 = λ s. Stood (program_of image) s played.job.run.log played.job.run.at.state.locals (places played.job.run.at.state) in
      let L : Log → Type 0 = λ l. Stood (program_of image) (start_in (suc k) mine.0.start) l played.job.run.at.state.locals (places played.job.run.at.state) in
      let J : ℕ → Type 0 = λ j. HasStood (program_of image) opening (front ++ e ∷ []) j played.job.run.at.state.locals (places played.job.run.at.state) in
      let stands : place_of played.job.run.at.state ≡ place =
      same_Some (place_of played.job.run.at.state) place
      (sym (ap (option_map (λ (p : Playing). place_of p.job.run.at.state)) here) ∙ ap (place_in jobs) (sym is) ∙ there) in (
        played.job.run.at.state.locals,
        places played.job.run.at.state,
        subst J (sym is) (mine.0, mine.1, subst L (sym its.logged) (subst S (sym mine.2) its.placed.stood)),
        sym stands ∙ stands_innermost played.job.run.at.state,
      )

  -- there is such a place
  pub some_place : (place : Option Place) × (place_in jobs e.job ≡ Some place)
  some_place =
      let found = its_job e.job refl in (
        place_of found.2.job.run.at.state,
        ap (place_in jobs) found.1 ∙ ap (option_map (λ (p : Playing). place_of p.job.run.at.state)) found.3,
      )

-- ---- events with their places, one more

module _ (program : Program) (opening : Shared) where
  more_from : (front : History) (events : List Noted) (e : Noted) → AllCameFrom program opening front events
      → CameFrom program opening (front ++ history_of events) (event_of e) (spot_place e.spot) → AllCameFrom program opening front (events ++ e ∷ [])
  more_from front [] e all is = (subst (λ (h : History). CameFrom program opening h (event_of e) (spot_place e.spot)) (append-nil front) is, tt)
  more_from front (x ∷ events) e all is = (
    all.0,
    more_from (front ++ event_of x ∷ []) events e all.1
        (subst (λ (h : History). CameFrom program opening h (event_of e) (spot_place e.spot)) (sym (append_assoc front (event_of x ∷ []) (history_of events))) is),
  )

  pub one_from : (events : List Noted) (e : Noted) → AllCameFrom program opening [] events
      → CameFrom program opening (history_of events) (event_of e) (spot_place e.spot) → AllCameFrom program opening [] (events ++ e ∷ [])
  one_from events e all is = more_from [] events e all is

pub history_take : (events : List Noted) (n : ℕ) → history_of (take n events) ≡ take n (history_of events)
history_take events zero = refl
history_take [] (suc n) = refl
history_take (e ∷ events) (suc n) = ap (λ (h : History). event_of e ∷ h) (history_take events n)

events_on : (events : List Noted) (at : ℕ) (e : Noted) → slice_get events at ≡ Some e → take (at + 1) events ≡ take at events ++ e ∷ []
events_on events at e is =
    take_more events at e (slice_get_within events at e is) ∙ ap (λ x. take at events ++ x ∷ []) (get_or_from_slice_get events at e e is)

module _ (image : Loaded) (opening : Shared) (events : List Noted) (at : ℕ) (e : Noted) (is : slice_get events at ≡ Some e) (system : Recorded) (jobs : List Playing)
    (staged : AreStaged image opening (take at (history_of events) ++ event_of e ∷ []) system jobs) where
  -- the next event came from where it is recorded to
  pub from_on : AllCameFrom (program_of image) opening [] (take at events) → place_in jobs e.job ≡ Some (spot_place e.spot)
      → AllCameFrom (program_of image) opening [] (take (at + 1) events)
  from_on all there =
      let H : History → Type 0 = λ h. CameFrom (program_of image) opening h (event_of e) (spot_place e.spot) in
      subst (λ (l : List Noted). AllCameFrom (program_of image) opening [] l) (sym (events_on events at e is))
      (one_from (program_of image) opening (take at events) e all
      (subst H (sym (history_take events at)) (came_from image opening (take at (history_of events)) (event_of e) system jobs staged (spot_place e.spot) there)))

  -- or not
  pub from_off : (before : IsRun (program_of image) opening (take at (history_of events))) → AllCameFrom (program_of image) opening [] (take at events)
      → (place_in jobs e.job ≡ Some (spot_place e.spot) → ⊥) → IsFirstApart (program_of image) opening events at
  from_off before all other =
      let there = some_place image opening (take at (history_of events)) (event_of e) system jobs staged in
      record {
        event = e;
        there = is;
        before = before;
        from = all;
        apart = inr (
          there.0,
          came_from image opening (take at (history_of events)) (event_of e) system jobs staged there.0 there.1,
          λ same. other (there.1 ∙ ap Some same),
        );
      }

  -- the next event with its place
  pub located_on : (new : List Noted) → history_of new ≡ take at (history_of events) → AllCameFrom (program_of image) opening [] new → (f : Noted)
      → event_of f ≡ event_of e → ((place : Option Place) → place_in jobs e.job ≡ Some place → spot_place f.spot ≡ place)
      → AllCameFrom (program_of image) opening [] (new ++ f ∷ [])
  located_on new so all f same placed =
      let there = some_place image opening (take at (history_of events)) (event_of e) system jobs staged in
      let came = came_from image opening (take at (history_of events)) (event_of e) system jobs staged there.0 there.1 in
      let H : History → Type 0 = λ h. CameFrom (program_of image) opening h (event_of f) (spot_place f.spot) in
      let E : Event → Type 0 = λ x. CameFrom (program_of image) opening (take at (history_of events)) x (spot_place f.spot) in
      let P : Option Place → Type 0 = λ p. CameFrom (program_of image) opening (take at (history_of events)) (event_of e) p in
      one_from (program_of image) opening new f all (subst H (sym so) (subst E (sym same) (subst P (sym (placed there.0 there.1)) came)))

history_more : (new : List Noted) (f : Noted) → history_of (new ++ f ∷ []) ≡ history_of new ++ event_of f ∷ []
history_more [] f = refl
history_more (x ∷ new) f = ap (λ (h : History). event_of x ∷ h) (history_more new f)

-- one more stands for the next event
pub same_on : (events new : List Noted) (at : ℕ) (e f : Noted) → slice_get events at ≡ Some e → event_of f ≡ event_of e → history_of new ≡ take at (history_of events)
    → history_of (new ++ f ∷ []) ≡ take (at + 1) (history_of events)
same_on events new at e f is same so =
    history_more new f ∙ ap (λ x. history_of new ++ x ∷ []) same ∙ ap (λ (h : History). h ++ event_of e ∷ []) so ∙ sym (take_on events at e is)

pub take_whole : (events : List Noted) (n : ℕ) → length events ≤ n → take n events ≡ events
take_whole [] zero le = refl
take_whole [] (suc n) le = refl
take_whole (e ∷ events) zero le = absurd (omega (arith, le))
take_whole (e ∷ events) (suc n) le = ap (λ l. e ∷ l) (take_whole events n (omega (arith, le)))
