-- What a core keeps makes its history a run.
use Rattle.std.specs.Prelude.{slice_get}
use Rattle.std.specs.Option.{option_map}
use Rattle.std.proofs.Common.{◌≡◌, ℕ, zero, suc, List, [], Option, Some, None, refl, sym, ap, ◌∙◌, subst}
use Rattle.std.proofs.lemmas.Option.{slice_get-map, none-some, same_Some}
use Rattle.mj_load.specs.Image.{Loaded, program_of}
use Rattle.mj_jobs.specs.Rows.{Row, row_at}
use Rattle.mj_jobvm.specs.Run.{IsTrace, begins}
use Rattle.mj_dev.specs.Talk.{beginning}
use Rattle.mj_sessions.specs.Follow.{AreTalks}
use Rattle.mj_sys.specs.Shared.{Shared}
use Rattle.mj_sys.specs.History.{History, state_of, log_of}
use Rattle.mj_sys.specs.System.{Recorded, Claimed}
use Rattle.mj_core.specs.declared.happened.Happened.{Happened}
use Rattle.mj_core.specs.Woven.{woven}
use Rattle.mj_core.proofs.Happen.{shared_leaves}
use Rattle.mj_core.proofs.Logs.{silent_zero, silent_past}
use Rattle.mj_core.specs.Runs.{IsRun, start_in}
use Rattle.mj_core.specs.Answering.{Answering}
use Rattle.mj_core.specs.Ties.{Placed}
use Rattle.mj_core.specs.Kept.{AreKept, logs_of}

module _ {A : Type 0} (ans : Answering A) (image : Loaded) (opening : Shared) (system : Recorded) (slots : List (Placed A)) (waiting : Option Claimed) (order : List Happened)
    (kept : AreKept ans image opening system slots waiting order) where
  abbrev history : History
  history = woven (logs_of slots) order

  -- all events leave what the shared ones leave
  pub same_state : state_of opening history ≡ state_of opening system.history
  same_state = sym (shared_leaves opening history) ∙ ap (state_of opening) kept.history

  -- a job without a slot has no event
  pub none_past : (k : ℕ) → slice_get slots k ≡ None → log_of (suc k) history ≡ []
  none_past k past = silent_past (logs_of slots) k order (slice_get-map (λ (s : Placed A). s.job.run.log) slots k ∙ ap (option_map (λ (s : Placed A). s.job.run.log)) past)

  -- a slot's job starts as its row says
  pub starts : (k : ℕ) (slot : Placed A) (row : Row) → slice_get slots k ≡ Some slot → row_at (state_of opening history).rows (suc k) ≡ Some row
      → start_in slot.claim.job slot.claim.start ≡ start_in (suc k) row.start
  starts k slot row here is =
      let at = kept.tied k slot here in
      let claimed = at.placed.entered.row in
      let row_there : row_at (state_of opening system.history).rows slot.claim.job ≡ Some row =
      ap (λ (s : Shared). row_at s.rows slot.claim.job) (sym same_state) ∙ ap (λ j. row_at (state_of opening history).rows j) at.numbered ∙ is in
      let one : claimed.0 ≡ row = same_Some claimed.0 row (sym claimed.1 ∙ row_there) in
      let start : slot.claim.start ≡ row.start = sym claimed.2 ∙ ap (λ (r : Row). r.start) one in
      ap (λ j. start_in j slot.claim.start) at.numbered ∙ ap (λ s. start_in (suc k) s) start

  trace_at : (job : ℕ) (row : Row) → row_at (state_of opening history).rows job ≡ Some row → IsTrace (program_of image) (start_in job row.start) (log_of job history)
  trace_at zero row is = absurd (none-some row is)
  trace_at (suc k) row is = by (slice_get slots k) refl where
    by : (found : Option (Placed A)) → slice_get slots k ≡ found → IsTrace (program_of image) (start_in (suc k) row.start) (log_of (suc k) history)
    by None past = subst (λ l. IsTrace (program_of image) (start_in (suc k) row.start) l) (sym (none_past k past)) begins
    by (Some slot) here =
        let at = kept.tied k slot here in
        subst (λ l. IsTrace (program_of image) (start_in (suc k) row.start) l) (sym at.logged)
        (subst (λ s. IsTrace (program_of image) s slot.job.run.log) (starts k slot row here is) at.placed.own.run.1.trace)

  talks_at : (job : ℕ) → AreTalks (log_of job history)
  talks_at zero = subst (λ l. AreTalks l) (sym (silent_zero (logs_of slots) order)) (λ name. (beginning, refl))
  talks_at (suc k) = by (slice_get slots k) refl where
    by : (found : Option (Placed A)) → slice_get slots k ≡ found → AreTalks (log_of (suc k) history)
    by None past = subst (λ l. AreTalks l) (sym (none_past k past)) (λ name. (beginning, refl))
    by (Some slot) here =
        let at = kept.tied k slot here in
        subst (λ l. AreTalks l) (sym at.logged) (ans.talks slot.answerer slot.job.run.log at.placed.own.told)

  pub is_run : IsRun (program_of image) opening history
  is_run = record { happen = kept.happen; traces = trace_at; talks = talks_at }
