-- What is gathered is a run.
use Rattle.std.specs.Prelude.{◌==◌, if◌then◌else◌}
use Rattle.std.specs.List.{All}
use Rattle.std.proofs.Common.{◌≡◌, ℕ, ◌≤◌, List, [], ◌∷◌, length, Bool, true, false, Some, refl, sym, ap, ◌∙◌, subst, arith}
use Rattle.std.proofs.lemmas.List.Elements.{All-head, All-tail}
use Rattle.std.proofs.lemmas.Option.{same_Some}
use Rattle.mj_semantics.specs.Job.{Start}
use Rattle.mj_dev.specs.Talk.{beginning}
use Rattle.mj_load.specs.Image.{Loaded, program_of}
use Rattle.mj_jobs.specs.Rows.{Row, row_at}
use Rattle.mj_jobvm.specs.Run.{Log, IsTrace, begins}
use Rattle.mj_sessions.specs.Follow.{AreTalks}
use Rattle.mj_sys.specs.Opening.{NoneHasEnded}
use Rattle.mj_sys.specs.Shared.{Shared}
use Rattle.mj_sys.specs.History.{History, AreServed, state_of, log_of}
use Rattle.mj_core.specs.Happen.{shared_of}
use Rattle.mj_core.specs.Runs.{IsRun, start_in}
use Rattle.mj_core.proofs.Happen.{shared_leaves}
use Rattle.mj_gather.specs.Rans.{Kept, EndsAtHalt, log_in, counted}
use Rattle.mj_gather.specs.Merged.{shared_log, merged_from}
use Rattle.mj_gather.specs.Gathered.{times_run}
use Rattle.mj_gather.specs.Found.{IsSound}
use Rattle.mj_gather.proofs.Logs.{same_eq}
use Rattle.mj_gather.proofs.Rows.{within}
use Rattle.mj_gather.proofs.Weaves.{Weaves, Fits, weaves_from}
use Rattle.mj_gather.proofs.Counting.{counts}

abbrev AllSound : List Row → List Kept → Type 0
AllSound rows rans = All (λ r. IsSound rows r) rans

-- what each log is
log_is : (P : Log → Type 0) (rows : List Row) (rans : List Kept) (k : ℕ) → AllSound rows rans → P []
    → ((r : Kept) → IsSound rows r → r.claim.job ≡ k → P r.log) → P (log_in rans k)
log_is P rows [] k all none some = none
log_is P rows (r ∷ rans) k all none some =
    by (r.claim.job == k) refl (log_is P rows rans k (All-tail (λ x. IsSound rows x) r rans all) none some) where
      by : (b : Bool) → (r.claim.job == k) ≡ b → P (log_in rans k) → P (if b then r.log else log_in rans k)
      by true is rest = some r (All-head (λ x. IsSound rows x) r rans all) (same_eq r.claim.job k is)
      by false is rest = rest

-- a job without a row has none
pub log_past : (rows : List Row) (rans : List Kept) (k : ℕ) → AllSound rows rans → (1 ≤ k → k ≤ length rows → ⊥) → log_in rans k ≡ []
log_past rows rans k all out =
    log_is (λ l. l ≡ []) rows rans k all refl
    (λ r sound is. let b = within rows r.claim.job sound.starts.0 sound.starts.1 in absurd (out (omega (arith, b.0, is)) (omega (arith, b.1, is))))

ends : (rows : List Row) (rans : List Kept) (k : ℕ) → AllSound rows rans → EndsAtHalt (log_in rans k)
ends rows rans k all = log_is EndsAtHalt rows rans k all tt (λ r sound is. sound.ran.ends)

-- no entry of it: no talk with any device
pub no_talks : AreTalks []
no_talks name = (beginning, refl)

-- ---- all of it

-- what was found of the jobs that were run
pub record Found (opening : Shared) (history : History) (rans : List Kept) : Type 0 where
  pub served : AreServed opening history
  pub live : NoneHasEnded opening.rows
  pub once : (job : ℕ) → times_run rans job ≤ 1
  pub all : All (λ r. IsSound (state_of opening history).rows r) rans
  pub agree : (k : ℕ) → shared_log (log_in rans k) ≡ log_of k history

module _ (opening : Shared) (history : History) (rans : List Kept) (f : Found opening history rans) where
  abbrev rows : List Row
  rows = (state_of opening history).rows

  fits : Fits opening (log_in rans) history
  fits = record {
    served = f.served;
    shared = f.agree;
    ends = λ k. ends rows rans k f.all;
    none = λ k out. log_past rows rans k f.all out;
  }

  abbrev events : History
  events = merged_from (length opening.rows) (log_in rans) history

  woven : Weaves opening (log_in rans) history events
  woven = weaves_from opening (log_in rans) history f.live fits

  pub gathered_shared : shared_of events ≡ history
  gathered_shared = woven.shared

  pub gathered_logs : (job : ℕ) → log_of job events ≡ log_in rans job
  gathered_logs = woven.logs

  pub gathered_state : state_of opening events ≡ state_of opening history
  gathered_state = sym (shared_leaves opening events) ∙ ap (state_of opening) gathered_shared

  pub gathered_counted : length history ≡ counted rans
  gathered_counted = counts rows rans history f.all f.once f.agree

  module _ (image : Loaded) (images : All (λ (r : Kept). r.image ≡ image) rans) where
    -- what a job that was run has is a trace from its row's start
    trace : (job : ℕ) (row : Row) → row_at rows job ≡ Some row → IsTrace (program_of image) (start_in job row.start) (log_in rans job)
    trace job row there = from rans images f.all where
      from : (xs : List Kept) → All (λ (r : Kept). r.image ≡ image) xs → AllSound rows xs → IsTrace (program_of image) (start_in job row.start) (log_in xs job)
      from [] same all = begins
      from (r ∷ xs) same all =
          at (r.claim.job == job) refl (All-head (λ (r : Kept). r.image ≡ image) r xs same) (All-head (λ x. IsSound rows x) r xs all)
          (from xs (All-tail (λ (r : Kept). r.image ≡ image) r xs same) (All-tail (λ x. IsSound rows x) r xs all)) where
            at : (b : Bool) → (r.claim.job == job) ≡ b → r.image ≡ image → IsSound rows r → IsTrace (program_of image) (start_in job row.start) (log_in xs job)
                → IsTrace (program_of image) (start_in job row.start) (if b then r.log else log_in xs job)
            at true q i sound rest =
                let mine : r.claim.job ≡ job = same_eq r.claim.job job q in
                let one : sound.starts.0 ≡ row = same_Some sound.starts.0 row (sym sound.starts.1 ∙ (ap (row_at rows) mine ∙ there)) in
                let start : r.claim.start ≡ row.start = sym sound.starts.2 ∙ ap (λ (x : Row). x.start) one in
                let begins_so : start_in r.claim.job r.claim.start ≡ start_in job row.start = ap (λ j. start_in j r.claim.start) mine ∙ ap (λ s. start_in job s) start in
                subst (λ (s : Start). IsTrace (program_of image) s r.log) begins_so
                (subst (λ (l : Loaded). IsTrace (program_of l) (start_in r.claim.job r.claim.start) r.log) i sound.ran.trace)
            at false q i sound rest = rest

    talks : (job : ℕ) → AreTalks (log_in rans job)
    talks job = log_is (λ l. AreTalks l) rows rans job f.all no_talks (λ r sound is. sound.ran.talks)

    pub gathered_run : IsRun (program_of image) opening events
    gathered_run = record {
      happen = woven.happen;
      traces = λ job row there.
          subst (λ (l : Log). IsTrace (program_of image) (start_in job row.start) l) (sym (gathered_logs job))
          (trace job row (ap (λ (s : Shared). row_at s.rows job) (sym gathered_state) ∙ there));
      talks = λ job. subst (λ (l : Log). AreTalks l) (sym (gathered_logs job)) (talks job);
    }
