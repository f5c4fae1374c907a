-- As many events as the claims count.
use Rattle.std.specs.Prelude.{◌==◌, if◌then◌else◌}
use Rattle.std.specs.List.{All}
use Rattle.std.proofs.Common.{◌≡◌, ℕ, suc, ◌+◌, ◌≤◌, List, [], ◌∷◌, length, Bool, true, false, cond, refl, sym, ap, ◌∙◌, subst, arith, count_by}
use Rattle.std.proofs.lemmas.List.Elements.{All-head, All-tail}
use Rattle.std.proofs.lemmas.List.Sums.{sum_by-cons}
use Rattle.mj_ask.specs.Fits.{is_shared}
use Rattle.mj_ask.specs.declared.ask.Ask.{Ask}
use Rattle.mj_ask.specs.declared.ask.Reply.{Reply}
use Rattle.mj_jobs.specs.Rows.{Row}
use Rattle.mj_jobvm.specs.Run.{Log}
use Rattle.mj_sys.specs.History.{History, log_of}
use Rattle.mj_core.specs.Ties.{shared_in}
use Rattle.mj_core.proofs.Logs.{same_job}
use Rattle.mj_gather.specs.Rans.{Kept, log_in, counted}
use Rattle.mj_gather.specs.Merged.{shared_log}
use Rattle.mj_gather.specs.Gathered.{times_run}
use Rattle.mj_gather.specs.Found.{IsSound}
use Rattle.mj_gather.proofs.Logs.{same_eq}
use Rattle.mj_gather.proofs.Weaves.{log_own, log_other}

count-cons : {X : Type 0} (p : X → Bool) (x : X) (xs : List X) → count_by p (x ∷ xs) ≡ cond (p x) 1 0 + count_by p xs
count-cons {X} p x xs = sum_by-cons (λ (y : X). cond (p y) 1 0) x xs

-- one that was run, and then others
pub times-cons : (r : Kept) (rans : List Kept) (job : ℕ) → times_run (r ∷ rans) job ≡ cond (r.claim.job == job) 1 0 + times_run rans job
times-cons r rans job = count-cons (λ (x : Kept). x.claim.job == job) r rans

-- a log has as many entries that the system served as are counted
count_is : (log : Log) → shared_in log ≡ length (shared_log log)
count_is [] = refl
count_is (x ∷ log) = count-cons (λ (e : Ask × Reply). is_shared e.0) x log ∙ by (is_shared x.0) (count_is log) where
  by : (b : Bool) → shared_in log ≡ length (shared_log log) → cond b 1 0 + shared_in log ≡ length (if◌then◌else◌ {A = Log} b (x ∷ shared_log log) (shared_log log))
  by true rest = omega (arith, rest)
  by false rest = omega (arith, rest)

-- a job that wasn't run has no log
log_none : (rans : List Kept) (job : ℕ) → times_run rans job ≡ 0 → log_in rans job ≡ []
log_none [] job none = refl
log_none (r ∷ rans) job none = by (r.claim.job == job) (sym (times-cons r rans job) ∙ none) (log_none rans job) where
  by : (b : Bool) → cond b 1 0 + times_run rans job ≡ 0 → (times_run rans job ≡ 0 → log_in rans job ≡ []) → (if◌then◌else◌ {A = Log} b r.log (log_in rans job)) ≡ []
  by true is rest = absurd (omega (arith, is))
  by false is rest = rest (omega (arith, is))

-- ---- a history without the events of a job

abbrev without : ℕ → History → History
without job [] = []
without job (e ∷ history) = if e.job == job then without job history else e ∷ without job history

without_length : (job : ℕ) (history : History) → length history ≡ length (log_of job history) + length (without job history)
without_length job [] = omega arith
without_length job (e ∷ history) = by (e.job == job) (without_length job history) where
  by : (b : Bool) → length history ≡ length (log_of job history) + length (without job history)
      → suc (length history) ≡ length (if◌then◌else◌ {A = Log} b ((e.ask, e.reply) ∷ log_of job history) (log_of job history))
      + length (if b then without job history else e ∷ without job history)
  by true rest = omega (arith, rest)
  by false rest = omega (arith, rest)

without_same : (job : ℕ) (history : History) → log_of job (without job history) ≡ []
without_same job [] = refl
without_same job (e ∷ history) = by (e.job == job) refl (without_same job history) where
  by : (b : Bool) → (e.job == job) ≡ b → log_of job (without job history) ≡ [] → log_of job (if b then without job history else e ∷ without job history) ≡ []
  by true is rest = rest
  by false is rest = ap (λ b. if◌then◌else◌ {A = Log} b ((e.ask, e.reply) ∷ log_of job (without job history)) (log_of job (without job history))) is ∙ rest

without_other : (job k : ℕ) (history : History) → (k ≡ job → ⊥) → log_of k (without job history) ≡ log_of k history
without_other job k [] apart = refl
without_other job k (e ∷ history) apart = by (e.job == job) refl (without_other job k history apart) where
  by : (b : Bool) → (e.job == job) ≡ b → log_of k (without job history) ≡ log_of k history
      → log_of k (if b then without job history else e ∷ without job history) ≡ log_of k (e ∷ history)
  by true is rest = rest ∙ sym (log_other k e history (λ q. apart (q ∙ same_eq e.job job is)))
  by false is rest = ap (λ l. if◌then◌else◌ {A = Log} (e.job == k) ((e.ask, e.reply) ∷ l) l) rest

-- where no job has an event, there is none
nothing : (history : History) → ((k : ℕ) → log_of k history ≡ []) → history ≡ []
nothing [] none = refl
nothing (e ∷ history) none = absurd (let no : (e.ask, e.reply) ∷ log_of e.job history ≡ [] = sym (log_own e.job e history refl) ∙ none e.job in cc)

-- ---- all of it

pub counts : (rows : List Row) (rans : List Kept) (history : History) → All (λ r. IsSound rows r) rans → ((job : ℕ) → times_run rans job ≤ 1)
    → ((k : ℕ) → shared_log (log_in rans k) ≡ log_of k history) → length history ≡ counted rans
counts rows [] history all once agree = ap length (nothing history (λ k. sym (agree k)))
counts rows (r ∷ rans) history all once agree =
    let job = r.claim.job in
    let sound : IsSound rows r = All-head (λ x. IsSound rows x) r rans all in
    let own : log_in (r ∷ rans) job ≡ r.log = ap (λ b. if◌then◌else◌ {A = Log} b r.log (log_in rans job)) (same_job job job refl) in
    let mine : length (log_of job history) ≡ r.claim.events =
    ap length (sym (agree job)) ∙ (ap (λ l. length (shared_log l)) own ∙ (sym (count_is r.log) ∙ sym sound.ran.counted)) in
    let rest : length (without job history) ≡ counted rans =
    counts rows rans (without job history) (All-tail (λ x. IsSound rows x) r rans all) fewer agrees in
    let both = without_length job history in
    omega (arith, both, mine, rest) where
      fewer : (job : ℕ) → times_run rans job ≤ 1
      fewer job = let n = times-cons r rans job in let m = once job in omega (arith, n, m)

      none : times_run rans r.claim.job ≡ 0
      none =
          let n = times-cons r rans r.claim.job in
          let c : ◌≡◌ {A = ℕ} (cond (r.claim.job == r.claim.job) 1 0) 1 = ap (λ b. cond b 1 0) (same_job r.claim.job r.claim.job refl) in
          let m = once r.claim.job in
          omega (arith, n, c, m)

      agrees : (k : ℕ) → shared_log (log_in rans k) ≡ log_of k (without r.claim.job history)
      agrees k = at (r.claim.job == k) refl where
        at : (b : Bool) → (r.claim.job == k) ≡ b → shared_log (log_in rans k) ≡ log_of k (without r.claim.job history)
        at true is =
            let P : ℕ → Type 0 = λ j. shared_log (log_in rans j) ≡ log_of j (without r.claim.job history) in
            subst P (same_eq r.claim.job k is) (ap shared_log (log_none rans r.claim.job none) ∙ sym (without_same r.claim.job history))
        at false is =
            ap shared_log (sym (ap (λ b. if◌then◌else◌ {A = Log} b r.log (log_in rans k)) is)) ∙ (agree k
            ∙ sym (without_other r.claim.job k history (λ q. let no : true ≡ false = sym (same_job r.claim.job k (sym q)) ∙ is in cc)))
