-- What a replica has is what stands at its place.
use Rattle.std.specs.Prelude.{take, slice_get, IfNone}
use Rattle.std.specs.Option.{option_map}
use Rattle.std.proofs.Common.{◌≡◌, ℕ, zero, suc, ◌≤◌, List, [], ◌∷◌, length, Option, Some, None, refl, sym, ap, ◌∙◌, subst, arith}
use Rattle.std.proofs.lemmas.Option.{slice_get_past, none-some, same_Some}
use Rattle.mj_semantics.specs.State.{places}
use Rattle.mj_semantics.specs.Job.{Start}
use Rattle.mj_load.specs.Image.{Loaded, program_of}
use Rattle.mj_jobs.specs.Rows.{row_at}
use Rattle.mj_jobvm.specs.Run.{Log}
use Rattle.mj_jobvm.specs.Jobs.{Running}
use Rattle.mj_sys.specs.Shared.{Shared}
use Rattle.mj_sys.specs.History.{History, state_of, log_of}
use Rattle.mj_core.specs.Runs.{start_in}
use Rattle.mj_replica.specs.Shows.{Stood, HasStood}
use Rattle.mj_replica.specs.Playing.{Playing}
use Rattle.mj_replica.specs.Replicas.{Replayed, job_of, IsReplica, IsFull}
use Rattle.mj_replica.proofs.Staging.{same_state, row_of}

-- what holds is so where there is none
pub if_none : {A P : Type 0} (r : Option A) → P → IfNone r P
if_none None p = p
if_none (Some a) p = tt

module _ (image : Loaded) (opening : Shared) (history : History) (replica : Replayed) (is : IsReplica image opening history replica) (place : ℕ) (at : replica.made ≡ place) where
  abbrev front : History
  front = take place history

  made_front : take replica.made history ≡ front
  made_front = ap (λ n. take n history) at

  -- what is shared
  pub shared_there : state_of opening replica.system.history ≡ state_of opening front
  shared_there =
      sym (same_state image opening (take replica.made history) replica.system replica.jobs is.staged) ∙ ap (state_of opening) made_front

  -- a job that wasn't started has no row
  missing : (k : ℕ) → IsFull opening replica → slice_get replica.jobs k ≡ None → row_at (state_of opening front).rows (suc k) ≡ None
  missing k full none =
      let past : length replica.jobs ≤ k = past_of replica.jobs k none in
      let rows : length (state_of opening replica.system.history).rows ≤ k = (let f = full in omega (arith, f, past)) in
      ap (λ (s : Shared). row_at s.rows (suc k)) (sym shared_there) ∙ slice_get_past (state_of opening replica.system.history).rows k rows where
        past_of : {X : Type 0} (xs : List X) (i : ℕ) → slice_get xs i ≡ None → length xs ≤ i
        past_of [] i e = omega arith
        past_of (x ∷ xs) zero e = absurd (none-some x (sym e))
        past_of (x ∷ xs) (suc i) e = let le = past_of xs i e in omega (arith, le)

  pub no_row : IsFull opening replica → (job : ℕ) → job_of replica job ≡ None → row_at (state_of opening front).rows job ≡ None
  no_row full zero none = refl
  no_row full (suc k) none = by (slice_get replica.jobs k) refl where
    by : (found : Option Playing) → slice_get replica.jobs k ≡ found → row_at (state_of opening front).rows (suc k) ≡ None
    by None past = missing k full past
    by (Some played) here = absurd (none-some played.job (sym none ∙ ap (option_map (λ (p : Playing). p.job)) here))

  -- a job that was stands where it stood at its last ask
  pub stands : (job : ℕ) (found : Running) → job_of replica job ≡ Some found
      → HasStood (program_of image) opening front job found.run.at.state.locals (places found.run.at.state)
  stands zero found none = absurd (none-some found none)
  stands (suc k) found there = by (slice_get replica.jobs k) refl where
    by : (played : Option Playing) → slice_get replica.jobs k ≡ played
        → HasStood (program_of image) opening front (suc k) found.run.at.state.locals (places found.run.at.state)
    by None past = absurd (none-some found (sym (ap (option_map (λ (p : Playing). p.job)) past) ∙ there))
    by (Some played) here =
        let one : played.job ≡ found = same_Some played.job found (sym (ap (option_map (λ (p : Playing). p.job)) here) ∙ there) in
        let its = is.staged.tied k played here in
        let mine = row_of image opening (take replica.made history) replica.system replica.jobs is.staged k played here in
        let row : row_at (state_of opening front).rows (suc k) ≡ Some mine.0 =
        ap (λ (h : History). row_at (state_of opening h).rows (suc k)) (sym made_front) ∙ mine.1 in
        let log : played.job.run.log ≡ log_of (suc k) front = sym its.logged ∙ ap (log_of (suc k)) made_front in
        let S : Start → Type 0 = λ s. Stood (program_of image) s played.job.run.log played.job.run.at.state.locals (places played.job.run.at.state) in
        let L : Log → Type 0 = λ l. Stood (program_of image) (start_in (suc k) mine.0.start) l played.job.run.at.state.locals (places played.job.run.at.state) in
        let J : Running → Type 0 = λ j. Stood (program_of image) (start_in (suc k) mine.0.start) (log_of (suc k) front) j.run.at.state.locals (places j.run.at.state) in
        (mine.0, row, subst J one (subst L log (subst S (sym mine.2) its.placed.stood)))
