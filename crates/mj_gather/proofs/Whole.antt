-- The run that is gathered.
use Rattle.std.specs.Borrow.{Bor}
use Rattle.std.specs.List.{All}
use Rattle.std.proofs.Common.{◌≡◌, ◌⊎◌, inl, inr, ℕ, zero, suc, ◌+◌, ◌-◌, ◌<◌, ◌≤◌, List, [], length, sym, ap, ◌∙◌, subst, arith}
use Rattle.std.proofs.Math.Path.{fun_ext}
use Rattle.mj_load.specs.Image.{Loaded, program_of}
use Rattle.mj_jobvm.specs.Run.{Log}
use Rattle.mj_locktab.specs.Locks.{LocksApart}
use Rattle.mj_sys.specs.Opening.{NoneHasEnded, NoneIsOpen}
use Rattle.mj_sys.specs.Shared.{Shared}
use Rattle.mj_sys.specs.History.{History, AreServed, state_of, log_of}
use Rattle.mj_core.specs.declared.happened.Happened.{Happened}
use Rattle.mj_core.specs.Happen.{shared_of}
use Rattle.mj_core.specs.Runs.{IsRun}
use Rattle.mj_core.specs.Woven.{Logs, woven, AreThere}
use Rattle.mj_serial.specs.Laws.{IsAsAlone, AllMustClash}
use Rattle.mj_serial.proofs.Cores.{is_serial, all_must}
use Rattle.mj_gather.specs.Rans.{Kept, log_in, counted}
use Rattle.mj_gather.specs.Merged.{Left, shared_log, merged_from}
use Rattle.mj_gather.specs.Lent.{lent, log_at, logs_from, IsWhole}
use Rattle.mj_gather.specs.Gathered.{times_run, DifferAt}
use Rattle.mj_gather.specs.Found.{IsSound, made_in}
use Rattle.mj_gather.proofs.Rows.{rows_grow}
use Rattle.mj_gather.proofs.Shown.{as_many_lent}
use Rattle.mj_gather.proofs.Starting.{logs_at, logs_past, logs_length}
use Rattle.mj_gather.proofs.Gathered.{Found, log_past, gathered_shared, gathered_logs, gathered_state, gathered_counted, gathered_run}

-- how many jobs had a row from the first on
pub first_rows : (opening : Shared) (history : History) (rows : ℕ) → AreServed opening history → rows ≡ length (state_of opening history).rows
    → (made_in history ≤ rows) × (rows - made_in history ≡ length opening.rows)
first_rows opening history rows served is = let g = rows_grow opening history served in (omega (arith, g, is), omega (arith, g, is))

-- the logs that are lent are those of the jobs
pub logs_same : (opening : Shared) (history : History) (rans : List Kept) (logs : Logs) (rows : ℕ) → All (λ (r : Kept). IsSound (state_of opening history).rows r) rans
    → rows ≡ length (state_of opening history).rows → logs ≡ logs_from rans 1 rows → log_at logs ≡ log_in rans
logs_same opening history rans logs rows all rows_are logs_are = fun_ext (λ job. by job) where
  below : (k n : ℕ) → (k < n) ⊎ (n ≤ k)
  below k n = grind arith

  none : (job : ℕ) → (1 ≤ job → job ≤ length (state_of opening history).rows → ⊥) → log_in rans job ≡ []
  none job out = log_past (state_of opening history).rows rans job all out

  by : (job : ℕ) → log_at logs job ≡ log_in rans job
  by zero = sym (none zero (λ some under. omega (arith, some)))
  by (suc k) = ap (λ l. log_at l (suc k)) logs_are ∙ elim (below k rows) [
    | inl b ↦ logs_at rans rows 1 k b ∙ ap (log_in rans) (let e : 1 + k ≡ suc k = omega arith in e)
    | inr past ↦ logs_past rans rows 1 k past ∙ sym (none (suc k) (λ some under. omega (arith, rows_are, past, under)))
  ]

-- what was found, and what was written down by it
pub record IsGathered (opening : Shared) (history : History) (rans : List Kept) (logs : Logs) (order : List Happened) (rows first : ℕ) : Type 0 where
  pub served : AreServed opening history
  pub live : NoneHasEnded opening.rows
  pub once : (job : ℕ) → times_run rans job ≤ 1
  pub all : All (λ r. IsSound (state_of opening history).rows r) rans
  pub rows_are : rows ≡ length (state_of opening history).rows
  pub logs_are : logs ≡ logs_from rans 1 rows
  pub first_is : first ≡ rows - made_in history
  pub order_is : woven logs order ≡ merged_from first (log_at logs) history
  pub agree : (job : ℕ) → shared_log (log_at logs job) ≡ log_of job history

-- what is said of a run that was gathered
pub record IsOfAll (opening : Shared) (history : History) (rans : List Kept) (events : History) : Type 0 where
  pub merged : events ≡ merged_from (length opening.rows) (log_in rans) history
  pub shared : shared_of events ≡ history
  pub state : state_of opening events ≡ state_of opening history
  pub logs : (job : ℕ) → log_of job events ≡ log_in rans job
  pub once : (job : ℕ) → times_run rans job ≤ 1
  pub sound : All (λ r. IsSound (state_of opening history).rows r) rans
  pub counted : length history ≡ counted rans
  pub run : (image : Loaded) → All (λ (r : Kept). r.image ≡ image) rans → IsRun (program_of image) opening events
  pub apart : LocksApart (state_of opening events).locks
  pub serial : (image : Loaded) → All (λ (r : Kept). r.image ≡ image) rans → IsAsAlone (program_of image) opening events
  pub clashes : (image : Loaded) → All (λ (r : Kept). r.image ≡ image) rans → AllMustClash (program_of image) opening events

module _ (opening : Shared) (history : History) (rans : List Kept) (logs : Logs) (order : List Happened) (rows first : ℕ)
    (so : IsGathered opening history rans logs order rows first) where
  same_logs : log_at logs ≡ log_in rans
  same_logs = logs_same opening history rans logs rows so.all so.rows_are so.logs_are

  found : Found opening history rans
  found = record {
    served = so.served;
    live = so.live;
    once = so.once;
    all = so.all;
    agree = λ k. ap (λ (f : Left). shared_log (f k)) (sym same_logs) ∙ so.agree k;
  }

  pub run_is : woven logs order ≡ merged_from (length opening.rows) (log_in rans) history
  run_is =
      so.order_is ∙ (ap (λ n. merged_from n (log_at logs) history) (so.first_is ∙ (first_rows opening history rows so.served so.rows_are).1)
      ∙ ap (λ l. merged_from (length opening.rows) l history) same_logs)

  pub run_shared : shared_of (woven logs order) ≡ history
  run_shared = ap shared_of run_is ∙ gathered_shared opening history rans found

  pub run_logs : (job : ℕ) → log_of job (woven logs order) ≡ log_in rans job
  run_logs job = ap (log_of job) run_is ∙ gathered_logs opening history rans found job

  pub run_whole : AreThere logs order → IsWhole logs order
  run_whole there = record { there = there; whole = λ job. run_logs job ∙ ap (λ (f : Left). f job) (sym same_logs) }

  pub run_counted : length history ≡ counted rans
  run_counted = gathered_counted opening history rans found

  pub run_state : state_of opening (woven logs order) ≡ state_of opening history
  run_state = ap (state_of opening) run_is ∙ gathered_state opening history rans found

  pub run_so : (image : Loaded) → All (λ (r : Kept). r.image ≡ image) rans → IsRun (program_of image) opening (woven logs order)
  run_so image images = subst (λ (h : History). IsRun (program_of image) opening h) (sym run_is) (gathered_run opening history rans found image images)

  -- all of it
  run_gathered : NoneIsOpen opening → LocksApart (state_of opening history).locks → IsOfAll opening history rans (woven logs order)
  run_gathered none apart = record {
    merged = run_is;
    shared = run_shared;
    state = run_state;
    logs = run_logs;
    once = so.once;
    sound = so.all;
    counted = run_counted;
    run = run_so;
    apart = subst (λ (s : Shared). LocksApart s.locks) (sym run_state) apart;
    serial = λ image images. is_serial (program_of image) opening (woven logs order) none (run_so image images);
    clashes = λ image images. all_must (program_of image) opening (woven logs order) (run_so image images) none;
  }

  pub all_gathered : (events : History) → events ≡ woven logs order → NoneIsOpen opening → LocksApart (state_of opening history).locks → IsOfAll opening history rans events
  all_gathered events is none apart = let P : History → Type 0 = λ h. IsOfAll opening history rans h in subst P (sym is) (run_gathered none apart)

-- ---- what is known where it was merged

module _ (opening : Shared) (h history : History) (rows : ℕ) (which : h ≡ history) (served : AreServed opening h) (rows_are : rows ≡ length (state_of opening history).rows) where
  pub rows_at : rows ≡ length (state_of opening h).rows
  rows_at = rows_are ∙ ap (λ (x : History). length (state_of opening x).rows) (sym which)

  -- how many jobs had a row from the first on
  pub few_made : (count : ℕ) → count ≡ made_in h → count ≤ rows
  few_made count counted = let m = (first_rows opening h rows served rows_at).0 in omega (arith, m, counted)

  pub first_are : (count : ℕ) → count ≡ made_in h → rows - count ≡ length opening.rows
  first_are count counted = ap (λ (n : ℕ). rows - n) counted ∙ (first_rows opening h rows served rows_at).1

  module _ (rans : List Kept) (slice logs : List (Bor Log)) (same : slice ≡ logs) (logs_are : lent logs ≡ logs_from rans 1 rows) where
    -- each job that has a row has a log
    pub logs_all : length slice ≡ length (state_of opening h).rows
    logs_all = ap length same ∙ (sym (as_many_lent logs) ∙ (ap length logs_are ∙ (logs_length rans 1 rows ∙ rows_at)))

    pub as_gathered : (order : List Happened) (count : ℕ) → count ≡ made_in h → NoneHasEnded opening.rows → ((job : ℕ) → times_run rans job ≤ 1)
        → All (λ (r : Kept). IsSound (state_of opening history).rows r) rans → woven (lent slice) order ≡ merged_from (rows - count) (log_at (lent slice)) h
        → ((job : ℕ) → shared_log (log_at (lent slice) job) ≡ log_of job h) → IsGathered opening history rans (lent logs) order rows (rows - count)
    as_gathered order count counted live once all merged agree =
        let M : List (Bor Log) → Type 0 = λ l. woven (lent l) order ≡ merged_from (rows - count) (log_at (lent l)) h in
        let A : List (Bor Log) → Type 0 = λ l. (job : ℕ) → shared_log (log_at (lent l) job) ≡ log_of job h in
        record {
          served = subst (λ (x : History). AreServed opening x) which served;
          live = live;
          once = once;
          all = all;
          rows_are = rows_are;
          logs_are = logs_are;
          first_is = ap (λ (n : ℕ). rows - n) (counted ∙ ap made_in which);
          order_is = subst M same merged ∙ ap (λ (x : History). merged_from (rows - count) (log_at (lent logs)) x) which;
          agree = λ job. (subst A same agree) job ∙ ap (λ (x : History). log_of job x) which;
        }

    -- where a log and the history differ
    pub differs_at : All (λ (r : Kept). IsSound (state_of opening history).rows r) rans → (job place : ℕ)
        → DifferAt place (shared_log (log_at (lent slice) job)) (log_of job h) → DifferAt place (shared_log (log_in rans job)) (log_of job history)
    differs_at all job place differ =
        let L : List (Bor Log) → Type 0 = λ l. DifferAt place (shared_log (log_at (lent l) job)) (log_of job h) in
        let F : Left → Type 0 = λ f. DifferAt place (shared_log (f job)) (log_of job h) in
        let H : History → Type 0 = λ x. DifferAt place (shared_log (log_in rans job)) (log_of job x) in
        subst H which (subst F (logs_same opening history rans (lent logs) rows all rows_are logs_are) (subst L same differ))
