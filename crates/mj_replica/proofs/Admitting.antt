-- Jobs are started, one after the other, up to the one whose event comes.
use Rattle.std.proofs.Common.{◌≡◌, ℕ, ◌+◌, List, [], ◌∷◌, ◌++◌, length, Option, Some, sym, ap, ◌∙◌, subst, inl}
use Rattle.mj_ask.specs.declared.entry.Entry.{Entry}
use Rattle.mj_semantics.specs.Job.{Start}
use Rattle.mj_semantics.specs.State.{places}
use Rattle.mj_load.specs.Image.{Loaded, program_of}
use Rattle.mj_jobs.specs.Rows.{Row, row_at}
use Rattle.mj_jobvm.specs.Jobs.{Running, opened, IsRunOf, IsRunOfAfter}
use Rattle.mj_sys.specs.Shared.{Shared}
use Rattle.mj_sys.specs.History.{History, state_of}
use Rattle.mj_sys.specs.System.{Recorded, Claimed}
use Rattle.mj_expect.specs.Heeds.{Heeds, AreHeeds}
use Rattle.mj_replica.specs.Shows.{Stood}
use Rattle.mj_replica.specs.Playing.{Playing, start_of, AreStaged}
use Rattle.mj_replica.proofs.Staging.{staged_more}

-- what stands while jobs are started: nothing was asked, and there are as many as were counted
pub record AreAdmitted (image : Loaded) (opening : Shared) (system : Recorded) (jobs : List Playing) (system' : Recorded) (jobs' : List Playing) (counter : ℕ) : Type 0 where
  pub staged : (history : History) → AreStaged image opening history system jobs → AreStaged image opening history system' jobs'
  pub history : system'.history ≡ system.history
  pub counted : counter ≡ length jobs'

-- a row was claimed, and its job starts
module _ (image : Loaded) (opening : Shared) (system new : Recorded) (jobs more : List Playing) (claim : Claimed)
    (same : new.history ≡ system.history) (claimed : new.claimed ≡ system.claimed + 1) (numbered : claim.job ≡ system.claimed + 1) (events : claim.events ≡ 0)
    (row : (row : Row) × (row_at (state_of opening system.history).rows claim.job ≡ Some row) × (row.start ≡ claim.start))
    (number : ℕ) (entry : Entry) (values : List (Option (List ℕ))) (number_is : number ≡ claim.job) (entry_is : entry ≡ claim.start.entry) (values_are : values ≡ claim.start.values)
    (job : Running) (opening_is : job ≡ opened image.bounds (record { job = number; entry = entry; values = values }))
    (run : IsRunOfAfter image (record { job = number; entry = entry; values = values }) 0 job)
    (heeds : Heeds) (heard : AreHeeds [] heeds) (end : more ≡ jobs ++ record { claim = claim; job = job; heeds = heeds } ∷ []) where
  runs : IsRunOf image (start_of claim) job
  runs =
      let of : ℕ → Entry → List (Option (List ℕ)) → Start = λ n e v. record { job = n; entry = e; values = v } in
      let is : of number entry values ≡ start_of claim = ap (λ n. of n entry values) number_is ∙ ap (λ e. of claim.job e values) entry_is ∙ ap (of claim.job claim.start.entry) values_are in
      let P : Start → Type 0 = λ s. IsRunOfAfter image s 0 job in
      (0, subst P is run)

  first : job.run.log ≡ []
  first = ap (λ (j : Running). j.run.log) opening_is

  stood : Stood (program_of image) (start_of claim) job.run.log job.run.at.state.locals (places job.run.at.state)
  stood = inl (first, ap (λ (j : Running). j.run.at.state.locals) opening_is, ap (λ (j : Running). places j.run.at.state) opening_is)

  pub started : (history : History) → AreStaged image opening history system jobs → AreStaged image opening history new more
  started history staged =
      let P : List Playing → Type 0 = λ l. AreStaged image opening history new l in
      subst P (sym end) (staged_more image opening history system jobs staged new claim same claimed numbered events row job heeds first runs heard stood)
