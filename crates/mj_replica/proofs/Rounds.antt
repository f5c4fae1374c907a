-- One event after the other.
use Rattle.std.specs.Prelude.{◌⊎◌, slice_get, slice_set, map, take, drop, if◌then◌else◌, Result, Ok, Err, IfOk}
use Rattle.std.specs.Option.{option_map}
use Rattle.std.proofs.Common.{◌≡◌, ℕ, zero, suc, ◌+◌, ◌<◌, ◌≤◌, List, [], ◌∷◌, ◌++◌, length, Bool, true, false, Some, refl, sym, ap, ◌∙◌, subst, inl, inr, arith}
use Rattle.std.proofs.lemmas.Option.{slice_get-map, slice_get_within, get_or_from_slice_get, none-some}
use Rattle.std.proofs.lemmas.List.{take_more, take-append-drop}
use Rattle.mj_ask.specs.declared.ask.Ask.{Ask}
use Rattle.mj_ask.specs.declared.noted.Noted.{Noted}
use Rattle.mj_ask.specs.declared.ask.Reply.{Reply}
use Rattle.mj_ask.specs.Fits.{is_shared}
use Rattle.mj_jobs.specs.Rows.{Row, IsLive}
use Rattle.mj_core.specs.Happen.{shared_of}
use Rattle.mj_load.specs.Image.{Loaded, program_of}
use Rattle.mj_sys.specs.declared.event.Event.{Event}
use Rattle.mj_sys.specs.Shared.{Shared}
use Rattle.mj_sys.specs.History.{History}
use Rattle.mj_sys.specs.System.{Recorded}
use Rattle.mj_core.specs.Runs.{IsRun}
use Rattle.mj_replica.specs.Replays.{event_of, history_of, IsUnmade, IsFirstUnmade}
use Rattle.mj_replica.specs.Playing.{Playing, Plays, AreStaged, Stages}
use Rattle.mj_replica.specs.Replicas.{IsLongAt}
use Rattle.mj_replica.proofs.Fronts.{fronts}
use Rattle.mj_replica.proofs.Staging.{is_run, unmade, staged_on}

abbrev Recording : Type 0
Recording = Noted

event_there : (events : List Recording) (at : ℕ) (e : Recording) → slice_get events at ≡ Some e → slice_get (history_of events) at ≡ Some (event_of e)
event_there events at e is = slice_get-map event_of events at ∙ ap (option_map event_of) is

-- one event more
pub take_on : (events : List Recording) (at : ℕ) (e : Recording) → slice_get events at ≡ Some e → take (at + 1) (history_of events) ≡ take at (history_of events) ++ event_of e ∷ []
take_on events at e is =
    let there = event_there events at e is in
    take_more (history_of events) at (event_of e) (slice_get_within (history_of events) at (event_of e) there)
    ∙ ap (λ x. take at (history_of events) ++ x ∷ []) (get_or_from_slice_get (history_of events) at (event_of e) (event_of e) there)

module _ (image : Loaded) (opening : Shared) (events : List Recording) (at : ℕ) (e : Recording) (is : slice_get events at ≡ Some e) (system : Recorded) (jobs : List Playing)
    (staged : AreStaged image opening (take at (history_of events)) system jobs) (new : Recorded) (jobs' : List Playing) where
  -- it was made
  pub round_on : Stages image opening (take at (history_of events)) (event_of e) true new jobs' → AreStaged image opening (take (at + 1) (history_of events)) new jobs'
  round_on made =
      let P : History → Type 0 = λ h. AreStaged image opening h new jobs' in
      subst P (sym (take_on events at e is)) made

  -- it wasn't
  pub round_off : Stages image opening (take at (history_of events)) (event_of e) false new jobs' → IsFirstUnmade (program_of image) opening (history_of events) at
  round_off not = record {
    event = event_of e;
    there = event_there events at e is;
    before = is_run image opening (take at (history_of events)) system jobs staged;
    unmade = not;
  }

pub take_past : {X Y : Type 0} (f : X → Y) (n : ℕ) (xs : List X) → length xs ≤ n → take n (map f xs) ≡ map f xs
take_past f zero [] le = refl
take_past f (suc n) [] le = refl
take_past f zero (x ∷ xs) le = absurd (omega (arith, le))
take_past f (suc n) (x ∷ xs) le = ap (λ l. f x ∷ l) (take_past f n xs (omega (arith, le)))

-- all were made
pub all_made : (image : Loaded) (opening : Shared) (events : List Recording) (at : ℕ) (system : Recorded) (jobs : List Playing) → length events ≤ at
    → AreStaged image opening (take at (history_of events)) system jobs → IsRun (program_of image) opening (history_of events)
all_made image opening events at system jobs past staged =
    let P : History → Type 0 = λ h. IsRun (program_of image) opening h in
    subst P (take_past event_of at events past) (is_run image opening (take at (history_of events)) system jobs staged)

-- the history has no more events than were recorded
shared_short : (history : History) → length (shared_of history) ≤ length history
shared_short [] = omega arith
shared_short (e ∷ history) = by (is_shared e.ask) (shared_short history) where
  by : (b : Bool) → length (shared_of history) ≤ length history → length (if b then e ∷ shared_of history else shared_of history) ≤ suc (length history)
  by true le = omega (arith, le)
  by false le = omega (arith, le)

take_short : {X : Type 0} (n : ℕ) (xs : List X) → length (take n xs) ≤ n
take_short zero xs = omega arith
take_short (suc n) [] = omega arith
take_short (suc n) (x ∷ xs) = let le = take_short n xs in omega (arith, le)

pub room_left : (image : Loaded) (opening : Shared) (events : List Recording) (at limit : ℕ) (system : Recorded) (jobs : List Playing)
    → AreStaged image opening (take at (history_of events)) system jobs → at < length events → length events ≤ limit → length system.history < limit
room_left image opening events at limit system jobs staged within short =
    let same : length (shared_of (take at (history_of events))) ≡ length system.history = ap (λ l. length l) staged.shared in
    let one = shared_short (take at (history_of events)) in
    let two = take_short at (history_of events) in
    omega (arith, same, one, two, within, short)

-- a job that goes on has a row
pub live_within : (rows : List Row) (job : ℕ) → IsLive rows job → job ≤ length rows
live_within rows zero live = omega arith
live_within rows (suc k) live = let within = slice_get_within rows k live.0 live.1 in omega (arith, within)

pub live_numbered : (rows : List Row) (job : ℕ) → IsLive rows job → 1 ≤ job
live_numbered rows zero live = absurd (none-some live.0 live.1)
live_numbered rows (suc k) live = omega arith

-- the event that is recorded
pub event_ok : (image : Loaded) (opening : Shared) (history : History) (new : Recorded) (jobs' : List Playing) (one e : Recording) → one ≡ e → {E : Type 0} (result : Result Bool E)
    → IfOk result (λ made. Stages image opening history (event_of one) made new jobs') → IfOk result (λ made. Stages image opening history (event_of e) made new jobs')
event_ok image opening history new jobs' one e same result made =
    let P : Recording → Type 0 = λ x. IfOk result (λ made. Stages image opening history (event_of x) made new jobs') in
    subst P same made

-- a job's event, made or not
module _ (image : Loaded) (opening : Shared) (history : History) (system new : Recorded) (jobs jobs' : List Playing) (staged : AreStaged image opening history system jobs)
    (k job : ℕ) (numbered : job ≡ suc k) (played played' : Playing) (here : slice_get jobs k ≡ Some played) (ask : Ask) (reply : Reply) (set : jobs' ≡ slice_set jobs k played') where
  pub made_so : (made : Bool) → Plays image opening system played.claim played.job played.heeds ask reply made new played'.claim played'.job played'.heeds
      → Stages image opening history (record { job = job; ask = ask; reply = reply }) made new jobs'
  made_so true plays =
      let P : ℕ → Type 0 = λ j. AreStaged image opening (history ++ record { job = j; ask = ask; reply = reply } ∷ []) new jobs' in
      let Q : List Playing → Type 0 = λ l. AreStaged image opening (history ++ record { job = suc k; ask = ask; reply = reply } ∷ []) new l in
      subst P (sym numbered) (subst Q (sym set) (staged_on image opening history system jobs staged k played here ask reply new played' plays))
  made_so false plays =
      let P : ℕ → Type 0 = λ j. IsUnmade (program_of image) opening history (record { job = j; ask = ask; reply = reply }) in
      subst P (sym numbered) (unmade image opening history system jobs staged k played here ask reply new played'.claim played'.job played'.heeds plays)

  pub made_ok : {E : Type 0} (result : Result Bool E) → IfOk result (λ made. Plays image opening system played.claim played.job played.heeds ask reply made new played'.claim played'.job played'.heeds)
      → IfOk result (λ made. Stages image opening history (record { job = job; ask = ask; reply = reply }) made new jobs')
  made_ok (Ok made) plays = made_so made plays
  made_ok (Err e) plays = tt

-- a number below the next is the last or before it
pub next_or_before : (n m : ℕ) → n < m + 1 → (n ≡ m) ⊎ (n < m)
next_or_before zero zero below = inl refl
next_or_before zero (suc m) below = inr (omega arith)
next_or_before (suc n) zero below = absurd (omega (arith, below))
next_or_before (suc n) (suc m) below = by (next_or_before n m (omega (arith, below))) where
  by : (n ≡ m) ⊎ (n < m) → (suc n ≡ suc m) ⊎ (suc n < suc m)
  by (inl e) = inl (ap suc e)
  by (inr e) = inr (omega (arith, e))

-- where a history has an event more than was played, the system has room
pub room_in : (image : Loaded) (opening : Shared) (history : History) (at limit : ℕ) (system : Recorded) (jobs : List Playing)
    → AreStaged image opening (take at history) system jobs → at < length history → length history ≤ limit → length system.history < limit
room_in image opening history at limit system jobs staged within short =
    let same : length (shared_of (take at history)) ≡ length system.history = ap (λ l. length l) staged.shared in
    let one = shared_short (take at history) in
    let two = take_short at history in
    omega (arith, same, one, two, within, short)

-- one event more of a history
pub front_on : (history : History) (at : ℕ) (e : Event) → slice_get history at ≡ Some e → take (at + 1) history ≡ take at history ++ e ∷ []
front_on history at e is =
    take_more history at e (slice_get_within history at e is) ∙ ap (λ x. take at history ++ x ∷ []) (get_or_from_slice_get history at e e is)

-- what is recorded is made, or its job goes on for too long
pub is_long : (image : Loaded) (opening : Shared) (history : History) (at : ℕ) (e : Event) → slice_get history at ≡ Some e → IsRun (program_of image) opening history
    → IsUnmade (program_of image) opening (take at history) e → IsLongAt image opening history at
is_long image opening history at e is run (inr long) = (e, is, long)
is_long image opening history at e is run (inl not) = absurd (not (
    let whole : history ≡ (take at history ++ e ∷ []) ++ drop (at + 1) history =
    sym (take-append-drop (at + 1) history) ∙ ap (λ l. l ++ drop (at + 1) history) (front_on history at e is) in
    let P : History → Type 0 = λ h. IsRun (program_of image) opening h in
    fronts (program_of image) opening (take at history ++ e ∷ []) (drop (at + 1) history) (subst P whole run)))

-- an event that is recorded and wasn't made
pub play_off : (image image' : Loaded) (opening : Shared) (history : History) (at : ℕ) (e : Event) (made : Bool) (new : Recorded) (jobs' : List Playing) → image' ≡ image
    → slice_get history at ≡ Some e
    → IsRun (program_of image) opening history → made ≡ false → Stages image' opening (take at history) e made new jobs' → IsLongAt image opening history at
play_off image image' opening history at e made new jobs' same there run off stages =
    let P : Loaded → Type 0 = λ i. Stages i opening (take at history) e made new jobs' in
    let Q : Bool → Type 0 = λ b. Stages image opening (take at history) e b new jobs' in
    is_long image opening history at e there run (subst Q off (subst P same stages))

-- one that was made
pub play_on : (image image' : Loaded) (opening : Shared) (history : History) (at : ℕ) (e : Event) (made : Bool) (new : Recorded) (jobs' : List Playing) → image' ≡ image → slice_get history at ≡ Some e
    → made ≡ true → Stages image' opening (take at history) e made new jobs' → AreStaged image opening (take (at + 1) history) new jobs'
play_on image image' opening history at e made new jobs' same there on stages =
    let P : Loaded → Type 0 = λ i. Stages i opening (take at history) e made new jobs' in
    let Q : Bool → Type 0 = λ b. Stages image opening (take at history) e b new jobs' in
    let R : History → Type 0 = λ h. AreStaged image opening h new jobs' in
    subst R (sym (front_on history at e there)) (subst Q on (subst P same stages))
