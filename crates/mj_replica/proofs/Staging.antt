-- What a replay keeps is kept by each event, and makes what was replayed a run.
use Rattle.std.specs.Prelude.{◌⊎◌, slice_get, slice_set, if◌then◌else◌}
use Rattle.std.proofs.Common.{◌≡◌, ℕ, zero, suc, ◌+◌, ◌<◌, ◌≤◌, List, [], ◌∷◌, ◌++◌, length, Bool, true, false, cond, Option, Some, None}
use Rattle.std.proofs.Common.{refl, sym, ap, ◌∙◌, subst, inl, inr, append-nil, arith, length-append, eq-eqb}
use Rattle.std.proofs.lemmas.Option.{slice_get_within, none-some, same_Some}
use Rattle.std.proofs.lemmas.List.{length-set}
use Rattle.mj_ask.specs.Fits.{is_shared}
use Rattle.mj_ask.specs.declared.ask.Ask.{Ask}
use Rattle.mj_ask.specs.declared.ask.Reply.{Reply}
use Rattle.mj_dev.specs.Talk.{beginning}
use Rattle.mj_semantics.specs.State.{places}
use Rattle.mj_semantics.specs.Job.{Start}
use Rattle.mj_load.specs.Image.{Loaded, program_of}
use Rattle.mj_jobs.specs.Rows.{Row, row_at, IsLive}
use Rattle.mj_jobvm.specs.Run.{Log, IsTrace, begins, GoesOn}
use Rattle.mj_jobvm.specs.Jobs.{Running, IsRunOf}
use Rattle.mj_sessions.specs.Follow.{AreTalks}
use Rattle.mj_sys.specs.declared.event.Event.{Event}
use Rattle.mj_sys.specs.Shared.{Shared}
use Rattle.mj_sys.specs.History.{History, after, state_of, log_of, events_of}
use Rattle.mj_sys.specs.System.{Recorded, Claimed}
use Rattle.mj_sys.specs.Told.{recorded}
use Rattle.mj_sys.proofs.Replays.{no_events}
use Rattle.mj_sys.proofs.Rows.{rows_kept, state_of_append, log_of_append, events_of_append}
use Rattle.mj_core.specs.Happen.{AllHappen, Happens, shared_of}
use Rattle.mj_core.proofs.Happen.{shared_append, happen_more, shared_leaves}
use Rattle.mj_core.proofs.Logs.{log_own, log_other, shared_silent}
use Rattle.mj_expect.specs.Heeds.{Heeds, AreHeeds, Heard}
use Rattle.mj_expect.proofs.Hearing.{heard_shared, heard_talks}
use Rattle.mj_core.specs.Runs.{IsRun, start_in}
use Rattle.mj_replica.specs.Replays.{IsUnmade}
use Rattle.mj_replica.specs.Shows.{Stood}
use Rattle.mj_replica.specs.Playing.{Playing, start_of, IsPlaying, AsksIt, ServesIt, Plays, IsPlayingOf, AreStaged}
use Rattle.mj_replica.proofs.Serving.{not_served, is_served}

-- an element of a list with one that was changed
get_set : {X : Type 0} (xs : List X) (k j : ℕ) (x y : X) → slice_get (slice_set xs k x) j ≡ Some y → ((j ≡ k) × (y ≡ x)) ⊎ ((j ≡ k → ⊥) × (slice_get xs j ≡ Some y))
get_set [] k j x y is = absurd (let no : None ≡ Some y = is in cc)
get_set (z ∷ xs) zero zero x y is = inl (refl, (let same : Some x ≡ Some y = is in cc))
get_set (z ∷ xs) zero (suc j) x y is = inr (λ e. (let no : suc j ≡ zero = e in omega (arith, no)), is)
get_set (z ∷ xs) (suc k) zero x y is = inr (λ e. (let no : zero ≡ suc k = e in omega (arith, no)), is)
get_set (z ∷ xs) (suc k) (suc j) x y is = by (get_set xs k j x y is) where
  by : ((j ≡ k) × (y ≡ x)) ⊎ ((j ≡ k → ⊥) × (slice_get xs j ≡ Some y)) → ((suc j ≡ suc k) × (y ≡ x)) ⊎ ((suc j ≡ suc k → ⊥) × (slice_get xs j ≡ Some y))
  by (inl e) = inl (ap suc e.0, e.1)
  by (inr e) = inr (λ s. e.0 (let same : suc j ≡ suc k = s in omega (arith, same)), e.1)

-- an element of a list with one more
get_end : {X : Type 0} (xs : List X) (j : ℕ) (x y : X) → slice_get (xs ++ x ∷ []) j ≡ Some y → ((j ≡ length xs) × (y ≡ x)) ⊎ (slice_get xs j ≡ Some y)
get_end [] zero x y is = inl (refl, (let same : Some x ≡ Some y = is in cc))
get_end [] (suc j) x y is = absurd (let no : None ≡ Some y = is in cc)
get_end (z ∷ xs) zero x y is = inr is
get_end (z ∷ xs) (suc j) x y is = by (get_end xs j x y is) where
  by : ((j ≡ length xs) × (y ≡ x)) ⊎ (slice_get xs j ≡ Some y) → ((suc j ≡ suc (length xs)) × (y ≡ x)) ⊎ (slice_get xs j ≡ Some y)
  by (inl e) = inl (ap suc e.0, e.1)
  by (inr e) = inr e

-- the last event happened where those before it left
happen_last : (s : Shared) (history : History) (e : Event) → AllHappen s (history ++ e ∷ []) → Happens (state_of s history) e
happen_last s [] e all = all.0
happen_last s (f ∷ history) e all = happen_last (after s f) history e all.1

-- the row of a job keeps its start
row_later : (opening : Shared) (history history' more : History) (claim : Claimed) → history' ≡ history ++ more
    → (row : Row) × (row_at (state_of opening history).rows claim.job ≡ Some row) × (row.start ≡ claim.start)
    → (row : Row) × (row_at (state_of opening history').rows claim.job ≡ Some row) × (row.start ≡ claim.start)
row_later opening history history' more claim on there =
    let kept = (rows_kept (state_of opening history) more).starts claim.job there.0 there.1 in
    (kept.0, ap (λ (s : Shared). row_at s.rows claim.job) (ap (state_of opening) on ∙ state_of_append opening history more) ∙ kept.1, kept.2 ∙ there.2)

-- ---- one job

module _ (image : Loaded) (opening : Shared) (old : Recorded) (claim : Claimed) (job : Running) (heeds : Heeds) (ask : Ask) (reply : Reply)
    (tied : IsPlaying image opening old claim job heeds) where
  abbrev event : Event
  event = record { job = claim.job; ask = ask; reply = reply }

  abbrev Made : Bool → Recorded → Claimed → Running → Heeds → Type 0
  Made made new claim' job' heeds' = Plays image opening old claim job heeds ask reply made new claim' job' heeds'

  pub unasked : (mid : Running) → AsksIt image (start_of claim) job ask reply false mid → (new : Recorded) (claim' : Claimed) (job' : Running) (heeds' : Heeds) → Made false new claim' job' heeds'
  unasked mid (inl long) new claim' job' heeds' = inl long
  unasked mid (inr not) new claim' job' heeds' = inr (inl not)

  pub unheard : (heard' : Heeds) → Heard job.run.log ask reply false heard' → (new : Recorded) (claim' : Claimed) (job' : Running) (heeds' : Heeds) → Made false new claim' job' heeds'
  unheard heard' not new claim' job' heeds' = inr (inr (inr not))

  pub unserved : (mid : Recorded) (mid_claim : Claimed) → is_shared ask ≡ true → ServesIt opening old claim ask reply false mid mid_claim
      → (new : Recorded) (claim' : Claimed) (job' : Running) (heeds' : Heeds) → Made false new claim' job' heeds'
  unserved mid mid_claim shared not new claim' job' heeds' =
      inr (inr (inl (λ happens. not_served (state_of opening old.history) claim.job ask reply not (happens.1 shared))))

  module _ (live : IsLive (state_of opening old.history).rows claim.job) (job' : Running) (log : job'.run.log ≡ job.run.log ++ (ask, reply) ∷ [])
      (run : IsRunOf image (start_of claim) job') (stood : Stood (program_of image) (start_of claim) job'.run.log job'.run.at.state.locals (places job'.run.at.state)) where
    pub heard : is_shared ask ≡ false → (heeds' : Heeds) → Heard job.run.log ask reply true heeds' → Made true old claim job' heeds'
    heard unshared heeds' all =
        let history : old.history ≡ old.history ++ shared_of (event ∷ []) =
        sym (append-nil old.history) ∙ sym (ap (λ c. old.history ++ (if c then event ∷ [] else [])) unshared) in
        let A : Log → Type 0 = λ l. AreHeeds l heeds' in (
          (live, (λ shared. absurd (let no : true ≡ false = sym shared ∙ unshared in cc))),
          record { numbered = tied.numbered; claimed = tied.claimed; row = tied.row; counted = tied.counted; run = run; heard = subst A (sym log) all; stood = stood },
          refl,
          log,
          ap (λ h. record old { history = h }) history,
        )

    one_event : events_of claim.job (event ∷ []) ≡ 1
    one_event = ap (λ b. 0 + cond b 1 0) (eq-eqb claim.job claim.job refl)

    row_on : (row : Row) × (row_at (state_of opening (old.history ++ event ∷ [])).rows claim.job ≡ Some row) × (row.start ≡ claim.start)
    row_on = row_later opening old.history (old.history ++ event ∷ []) (event ∷ []) claim refl tied.row

    pub shares : is_shared ask ≡ true → (new : Recorded) (claim' : Claimed) → ServesIt opening old claim ask reply true new claim' → Made true new claim' job' heeds
    shares shared new claim' served_so =
        let A : Log → Type 0 = λ l. AreHeeds l heeds in
        let here : IsPlaying image opening (recorded old claim.job ask reply) (record claim { events = claim.events + 1 }) job' heeds = record {
          numbered = tied.numbered;
          claimed = tied.claimed;
          row = row_on;
          counted = ap (λ n. n + 1) tied.counted ∙ sym (events_of_append claim.job old.history (event ∷ []) ∙ ap (λ n. events_of claim.job old.history + n) one_event);
          run = run;
          heard = subst A (sym log) (heard_shared job.run.log heeds ask reply shared tied.heard);
          stood = stood;
        } in
        let P : Recorded → Type 0 = λ r. IsPlaying image opening r (record claim { events = claim.events + 1 }) job' heeds in
        let Q : Claimed → Type 0 = λ c. IsPlaying image opening new c job' heeds in (
          (live, (λ is. is_served (state_of opening old.history) (state_of opening new.history) claim.job ask reply live is served_so.0)),
          subst Q (sym served_so.2) (subst P (sym served_so.1) here),
          ap (λ (c : Claimed). c.job) served_so.2,
          log,
          served_so.1 ∙ sym (ap (λ c. record old { history = old.history ++ (if c then event ∷ [] else []) }) shared),
        )

-- a job stays where others have events, and others are claimed
playing_beside : (image : Loaded) (opening : Shared) (old new : Recorded) (more : History) (claim : Claimed) (job : Running) (heeds : Heeds)
    → IsPlaying image opening old claim job heeds → new.history ≡ old.history ++ more → old.claimed ≤ new.claimed → events_of claim.job more ≡ 0
    → IsPlaying image opening new claim job heeds
playing_beside image opening old new more claim job heeds tied on claimed none = record {
  numbered = tied.numbered;
  claimed = (let a = tied.claimed in omega (arith, a, claimed));
  row = row_later opening old.history new.history more claim on tied.row;
  counted =
      tied.counted
      ∙ sym (ap (events_of claim.job) on ∙ events_of_append claim.job old.history more ∙ ap (λ n. events_of claim.job old.history + n) none
      ∙ (let plus : events_of claim.job old.history + 0 ≡ events_of claim.job old.history = omega arith in plus));
  run = tied.run;
  heard = tied.heard;
  stood = tied.stood;
}

-- ---- all jobs

pub staged_nothing : (image : Loaded) (opening : Shared) → AreStaged image opening [] (record { history = []; claimed = 0 }) []
staged_nothing image opening = record {
  shared = refl;
  happen = tt;
  claimed = refl;
  tied = λ k played here. absurd (let no : None ≡ Some played = here in cc);
  none = λ job above. refl;
  zero = refl;
}

module _ (image : Loaded) (opening : Shared) (history : History) (system : Recorded) (jobs : List Playing) (staged : AreStaged image opening history system jobs) where
  -- all events leave what the shared ones leave
  pub same_state : state_of opening history ≡ state_of opening system.history
  same_state = sym (shared_leaves opening history) ∙ ap (state_of opening) staged.shared

  -- a job's row, behind all events
  pub row_of : (k : ℕ) (played : Playing) → slice_get jobs k ≡ Some played
      → (row : Row) × (row_at (state_of opening history).rows (suc k) ≡ Some row) × (start_in (suc k) row.start ≡ start_of played.claim)
  row_of k played here =
      let at = staged.tied k played here in
      let claimed = at.placed.row in (
        claimed.0,
        ap (λ (s : Shared). row_at s.rows (suc k)) same_state ∙ ap (λ j. row_at (state_of opening system.history).rows j) (sym at.numbered) ∙ claimed.1,
        ap (start_in (suc k)) claimed.2 ∙ ap (λ j. start_in j played.claim.start) (sym at.numbered),
      )

  past_get : (k : ℕ) → slice_get jobs k ≡ None → length jobs ≤ k
  past_get k past = by jobs k past where
    by : (xs : List Playing) (i : ℕ) → slice_get xs i ≡ None → length xs ≤ i
    by [] i e = omega arith
    by (x ∷ xs) zero e = absurd (let no : Some x ≡ None = e in cc)
    by (x ∷ xs) (suc i) e = let le = by xs i e in omega (arith, le)

  trace_at : (job : ℕ) (row : Row) → row_at (state_of opening history).rows job ≡ Some row → IsTrace (program_of image) (start_in job row.start) (log_of job history)
  trace_at zero row is = absurd (none-some row is)
  trace_at (suc k) row is = by (slice_get jobs k) refl where
    by : (found : Option Playing) → slice_get jobs k ≡ found → IsTrace (program_of image) (start_in (suc k) row.start) (log_of (suc k) history)
    by None past =
        let le = past_get k past in
        subst (λ l. IsTrace (program_of image) (start_in (suc k) row.start) l) (sym (staged.none (suc k) (omega (arith, le)))) begins
    by (Some played) here =
        let at = staged.tied k played here in
        let mine = row_of k played here in
        let one : mine.0 ≡ row = same_Some mine.0 row (sym mine.1 ∙ is) in
        let start : start_in (suc k) row.start ≡ start_of played.claim = ap (λ (r : Row). start_in (suc k) r.start) (sym one) ∙ mine.2 in
        subst (λ l. IsTrace (program_of image) (start_in (suc k) row.start) l) (sym at.logged)
        (subst (λ s. IsTrace (program_of image) s played.job.run.log) (sym start) at.placed.run.1.trace)

  talks_at : (job : ℕ) → AreTalks (log_of job history)
  talks_at zero = subst (λ l. AreTalks l) (sym staged.zero) (λ name. (beginning, refl))
  talks_at (suc k) = by (slice_get jobs k) refl where
    by : (found : Option Playing) → slice_get jobs k ≡ found → AreTalks (log_of (suc k) history)
    by None past =
        let le = past_get k past in
        subst (λ l. AreTalks l) (sym (staged.none (suc k) (omega (arith, le)))) (λ name. (beginning, refl))
    by (Some played) here =
        let at = staged.tied k played here in
        subst (λ l. AreTalks l) (sym at.logged) (heard_talks played.job.run.log played.heeds at.placed.heard)

  pub is_run : IsRun (program_of image) opening history
  is_run = record { happen = staged.happen; traces = trace_at; talks = talks_at }

  -- ---- an event isn't made

  -- its job isn't there, or has ended
  pub dead : (e : Event) → (IsLive (state_of opening system.history).rows e.job → ⊥) → IsUnmade (program_of image) opening history e
  dead e not = inl (λ run. not (
      let L : Shared → Type 0 = λ s. IsLive s.rows e.job in
      subst L same_state (happen_last opening history e run.happen).0))

  module _ (k : ℕ) (played : Playing) (here : slice_get jobs k ≡ Some played) (ask : Ask) (reply : Reply) where
    abbrev own : Event
    own = record { job = suc k; ask = ask; reply = reply }

    at : IsPlayingOf image opening system history (suc k) played
    at = staged.tied k played here

    log_on : log_of (suc k) (history ++ own ∷ []) ≡ played.job.run.log ++ (ask, reply) ∷ []
    log_on = log_of_append (suc k) history (own ∷ []) ∙ ap (λ l. l ++ log_of (suc k) (own ∷ [])) at.logged ∙ ap (λ l. played.job.run.log ++ l) (log_own (suc k) own refl)

    -- what a run would say of the job's log
    traced : IsRun (program_of image) opening (history ++ own ∷ []) → IsTrace (program_of image) (start_of played.claim) (played.job.run.log ++ (ask, reply) ∷ [])
    traced run =
        let mine = row_of k played here in
        let later = (rows_kept (state_of opening history) (own ∷ [])).starts (suc k) mine.0 mine.1 in
        let there : row_at (state_of opening (history ++ own ∷ [])).rows (suc k) ≡ Some later.0 =
        ap (λ (s : Shared). row_at s.rows (suc k)) (state_of_append opening history (own ∷ [])) ∙ later.1 in
        let start : start_in (suc k) later.0.start ≡ start_of played.claim = ap (start_in (suc k)) later.2 ∙ mine.2 in
        subst (λ l. IsTrace (program_of image) (start_of played.claim) l) log_on
        (subst (λ s. IsTrace (program_of image) s (log_of (suc k) (history ++ own ∷ []))) start (run.traces (suc k) later.0 there))

    talked : IsRun (program_of image) opening (history ++ own ∷ []) → AreTalks (played.job.run.log ++ (ask, reply) ∷ [])
    talked run = subst (λ l. AreTalks l) log_on (run.talks (suc k))

    happened : IsRun (program_of image) opening (history ++ own ∷ []) → Happens (state_of opening system.history) (record { job = played.claim.job; ask = ask; reply = reply })
    happened run =
        let P : Shared → Type 0 = λ s. Happens s own in
        let Q : ℕ → Type 0 = λ j. Happens (state_of opening system.history) (record { job = j; ask = ask; reply = reply }) in
        subst Q (sym at.numbered) (subst P same_state (happen_last opening history own run.happen))

    pub unmade : (new : Recorded) (claim' : Claimed) (job' : Running) (heeds' : Heeds)
        → Plays image opening system played.claim played.job played.heeds ask reply false new claim' job' heeds' → IsUnmade (program_of image) opening history own
    unmade new claim' job' heeds' (inl long) =
        let mine = row_of k played here in
        let P : Start → Type 0 = λ s. GoesOn (program_of image) s played.job.run.log long.0 in
        let Q : Log → Type 0 = λ l. GoesOn (program_of image) (start_in (suc k) mine.0.start) l long.0 in
        inr (mine.0, mine.1, (long.0, long.1, subst Q (sym at.logged) (subst P (sym mine.2) long.2)))
    unmade new claim' job' heeds' (inr (inl not)) = inl (λ run. not (traced run))
    unmade new claim' job' heeds' (inr (inr (inl not))) = inl (λ run. not (happened run))
    unmade new claim' job' heeds' (inr (inr (inr not))) = inl (λ run. not (talked run))

    -- ---- it is made

    module _ (new : Recorded) (played' : Playing)
        (made : Plays image opening system played.claim played.job played.heeds ask reply true new played'.claim played'.job played'.heeds) where
      abbrev jobs' : List Playing
      jobs' = slice_set jobs k played'

      abbrev history' : History
      history' = history ++ own ∷ []

      same_event : ◌≡◌ {A = Event} (record { job = played.claim.job; ask = ask; reply = reply }) own
      same_event = ap (λ j. record { job = j; ask = ask; reply = reply }) at.numbered

      system_on : new.history ≡ system.history ++ shared_of (own ∷ [])
      system_on = ap (λ (r : Recorded). r.history) made.4 ∙ ap (λ (e : Event). system.history ++ shared_of (e ∷ [])) same_event

      claimed_same : new.claimed ≡ system.claimed
      claimed_same = ap (λ (r : Recorded). r.claimed) made.4

      happens : Happens (state_of opening history) own
      happens =
          let P : Shared → Type 0 = λ s. Happens s own in
          let Q : Event → Type 0 = λ e. Happens (state_of opening system.history) e in
          subst P (sym same_state) (subst Q same_event made.0)

      its_own : IsPlayingOf image opening new history' (suc k) played'
      its_own = record { numbered = made.2 ∙ at.numbered; placed = made.1; logged = log_on ∙ sym made.3 }

      other : (j : ℕ) (p : Playing) → (j ≡ k → ⊥) → slice_get jobs j ≡ Some p → IsPlayingOf image opening new history' (suc j) p
      other j p apart there =
          let before = staged.tied j p there in
          let not_it : suc k ≡ suc j → ⊥ = λ is. apart (let i : suc k ≡ suc j = is in omega (arith, i)) in
          let silent : log_of p.claim.job (shared_of (own ∷ [])) ≡ [] =
          ap (λ job. log_of job (shared_of (own ∷ []))) before.numbered ∙ shared_silent (suc j) (own ∷ []) (log_other (suc j) own not_it) in
          record {
            numbered = before.numbered;
            placed =
                playing_beside image opening system new (shared_of (own ∷ [])) p.claim p.job p.heeds before.placed system_on
                (let same_many = claimed_same in omega (arith, same_many)) (no_events p.claim.job (shared_of (own ∷ [])) silent);
            logged =
                log_of_append (suc j) history (own ∷ []) ∙ ap (λ l. log_of (suc j) history ++ l) (log_other (suc j) own not_it)
                ∙ append-nil (log_of (suc j) history) ∙ before.logged;
          }

      tied_on : (j : ℕ) (p : Playing) → slice_get jobs' j ≡ Some p → IsPlayingOf image opening new history' (suc j) p
      tied_on j p there = by (get_set jobs k j played' p there) where
        by : ((j ≡ k) × (p ≡ played')) ⊎ ((j ≡ k → ⊥) × (slice_get jobs j ≡ Some p)) → IsPlayingOf image opening new history' (suc j) p
        by (inl is) =
            let P : ℕ → Type 0 = λ i. IsPlayingOf image opening new history' (suc i) played' in
            let Q : Playing → Type 0 = λ q. IsPlayingOf image opening new history' (suc j) q in
            subst Q (sym is.1) (subst P (sym is.0) its_own)
        by (inr is) = other j p is.0 is.1

      within : k < length jobs
      within = slice_get_within jobs k played here

      silent_on : (job : ℕ) → (suc k ≡ job → ⊥) → log_of job history ≡ [] → log_of job history' ≡ []
      silent_on job apart none = log_of_append job history (own ∷ []) ∙ ap (λ l. l ++ log_of job (own ∷ [])) none ∙ log_other job own apart

      pub staged_on : AreStaged image opening history' new jobs'
      staged_on = record {
        shared = shared_append history (own ∷ []) ∙ ap (λ h. h ++ shared_of (own ∷ [])) staged.shared ∙ sym system_on;
        happen = happen_more opening history own staged.happen happens;
        claimed = claimed_same ∙ staged.claimed ∙ sym (length-set jobs k played');
        tied = tied_on;
        none = λ job above.
            (let long = length-set jobs k played' in
            let inside = within in
            silent_on job (λ is. (let i : suc k ≡ job = is in omega (arith, i, above, long, inside))) (staged.none job (omega (arith, above, long))));
        zero = silent_on 0 (λ is. (let i : suc k ≡ 0 = is in omega (arith, i))) staged.zero;
      }

  -- ---- one job more

  module _ (new : Recorded) (claim : Claimed) (same : new.history ≡ system.history) (claimed : new.claimed ≡ system.claimed + 1) (numbered : claim.job ≡ system.claimed + 1)
      (events : claim.events ≡ 0) (row : (row : Row) × (row_at (state_of opening system.history).rows claim.job ≡ Some row) × (row.start ≡ claim.start))
      (job : Running) (heeds : Heeds) (first : job.run.log ≡ []) (run : IsRunOf image (start_of claim) job) (heard_none : AreHeeds [] heeds)
      (stood : Stood (program_of image) (start_of claim) job.run.log job.run.at.state.locals (places job.run.at.state)) where
    abbrev begun : Playing
    begun = record { claim = claim; job = job; heeds = heeds }

    abbrev more : List Playing
    more = jobs ++ begun ∷ []

    on : new.history ≡ system.history ++ []
    on = same ∙ sym (append-nil system.history)

    its_number : claim.job ≡ suc (length jobs)
    its_number = let n = staged.claimed in omega (arith, n, numbered)

    silent_first : log_of (suc (length jobs)) history ≡ []
    silent_first = staged.none (suc (length jobs)) (omega arith)

    its_first : IsPlayingOf image opening new history (suc (length jobs)) begun
    its_first =
        let silent : log_of claim.job system.history ≡ [] =
        ap (λ j. log_of j system.history) its_number ∙ ap (log_of (suc (length jobs))) (sym staged.shared) ∙ shared_silent (suc (length jobs)) history silent_first in
        let H : Log → Type 0 = λ l. AreHeeds l heeds in
        record {
          numbered = its_number;
          placed = record {
            numbered = omega (arith, numbered);
            claimed = omega (arith, numbered, claimed);
            row = row_later opening system.history new.history [] claim on row;
            counted = events ∙ sym (ap (events_of claim.job) same ∙ no_events claim.job system.history silent);
            run = run;
            heard = subst H (sym first) heard_none;
            stood = stood;
          };
          logged = silent_first ∙ sym first;
        }

    tied_more : (j : ℕ) (p : Playing) → slice_get more j ≡ Some p → IsPlayingOf image opening new history (suc j) p
    tied_more j p there = by (get_end jobs j begun p there) where
      by : ((j ≡ length jobs) × (p ≡ begun)) ⊎ (slice_get jobs j ≡ Some p) → IsPlayingOf image opening new history (suc j) p
      by (inl e) =
          let P : ℕ → Type 0 = λ i. IsPlayingOf image opening new history (suc i) begun in
          let Q : Playing → Type 0 = λ q. IsPlayingOf image opening new history (suc j) q in
          subst Q (sym e.1) (subst P (sym e.0) its_first)
      by (inr e) =
          let before = staged.tied j p e in
          record {
            numbered = before.numbered;
            placed = playing_beside image opening system new [] p.claim p.job p.heeds before.placed on (omega (arith, claimed)) refl;
            logged = before.logged;
          }

    pub staged_more : AreStaged image opening history new more
    staged_more = record {
      shared = staged.shared ∙ sym same;
      happen = staged.happen;
      claimed = claimed ∙ (let n = staged.claimed in let long = length-append jobs (begun ∷ []) in omega (arith, n, long));
      tied = tied_more;
      none = λ j above. staged.none j (let long = length-append jobs (begun ∷ []) in omega (arith, above, long));
      zero = staged.zero;
    }
