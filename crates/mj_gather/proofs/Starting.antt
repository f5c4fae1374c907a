-- Jobs that were run: how each starts, how often it was run, and its log.
use Rattle.std.specs.Prelude.{◌==◌}
use Rattle.std.specs.Borrow.{Bor}
use Rattle.std.specs.List.{All}
use Rattle.std.specs.Option.{option_map}
use Rattle.std.proofs.Common.{◌≡◌, inl, inr, ℕ, suc, zero, ◌<◌, ◌≤◌, ◌+◌, List, ◌∷◌, ◌++◌, [], Bool, true, false, Option, Some, None, cond, length, get_or, drop, refl, sym, ap, ◌∙◌, subst, drop-cons, arith}
use Rattle.std.proofs.lemmas.List.{drop_all}
use Rattle.std.proofs.lemmas.List.Elements.{All-cons, All-nil}
use Rattle.std.proofs.lemmas.Option.{same_Some}
use Rattle.mj_ask.specs.Started.{Started}
use Rattle.mj_jobs.specs.Rows.{Row, row_at, start_at, HasStart}
use Rattle.mj_jobvm.specs.Run.{Log}
use Rattle.mj_core.proofs.Logs.{same_job}
use Rattle.mj_gather.specs.Rans.{Kept, log_in}
use Rattle.mj_gather.specs.Gathered.{StartDiffers, times_run}
use Rattle.mj_gather.specs.Lent.{lent, log_at, logs_from}
use Rattle.mj_gather.specs.Found.{IsSound}
use Rattle.mj_gather.proofs.Logs.{same_eq}
use Rattle.mj_gather.proofs.Counting.{times-cons}

module _ (rans : List Kept) (at : ℕ) (r : Kept) (below : at < length rans) (is : r ≡ get_or rans at r) where
  pub rest_is : drop at rans ≡ r ∷ drop (at + 1) rans
  rest_is = drop-cons rans at r below ∙ (ap (λ x. x ∷ drop (suc at) rans) (sym is) ∙ ap (λ n. r ∷ drop n rans) (let e : suc at ≡ at + 1 = omega arith in e))

  -- how often a job was run from it on
  pub times_is : (job : ℕ) → times_run (drop at rans) job ≡ cond (r.claim.job == job) 1 0 + times_run (drop (at + 1) rans) job
  times_is job = ap (λ l. times_run l job) rest_is ∙ times-cons r (drop (at + 1) rans) job

  pub times_here : (job : ℕ) → (r.claim.job == job) ≡ true → 1 ≤ times_run (drop at rans) job
  times_here job same = let n = times_is job in let c : ◌≡◌ {A = ℕ} (cond (r.claim.job == job) 1 0) 1 = ap (λ b. cond b 1 0) same in omega (arith, n, c)

  pub times_later : (job : ℕ) → (r.claim.job == job) ≡ false → times_run (drop at rans) job ≡ times_run (drop (at + 1) rans) job
  times_later job other = let n = times_is job in let c : ◌≡◌ {A = ℕ} (cond (r.claim.job == job) 1 0) 0 = ap (λ b. cond b 1 0) other in omega (arith, n, c)

  -- it is run once more behind
  pub twice_here : 1 ≤ times_run (drop (at + 1) rans) r.claim.job → 2 ≤ times_run (drop at rans) r.claim.job
  twice_here more =
      let n = times_is r.claim.job in
      let c : ◌≡◌ {A = ℕ} (cond (r.claim.job == r.claim.job) 1 0) 1 = ap (λ b. cond b 1 0) (same_job r.claim.job r.claim.job refl) in
      omega (arith, n, c, more)

  pub twice_later : (job : ℕ) → 2 ≤ times_run (drop (at + 1) rans) job → 2 ≤ times_run (drop at rans) job
  twice_later job more = let n = times_is job in omega (arith, n, more)

  -- or it isn't
  pub once_here : (1 ≤ times_run (drop (at + 1) rans) r.claim.job → ⊥) → ((job : ℕ) → times_run (drop (at + 1) rans) job ≤ 1) → (job : ℕ) → times_run (drop at rans) job ≤ 1
  once_here none once job = by (r.claim.job == job) refl where
    nothing : times_run (drop (at + 1) rans) r.claim.job ≡ 0
    nothing = least (times_run (drop (at + 1) rans) r.claim.job) none where
      least : (n : ℕ) → (1 ≤ n → ⊥) → n ≡ 0
      least zero never = refl
      least (suc n) never = absurd (never (omega arith))

    by : (b : Bool) → (r.claim.job == job) ≡ b → times_run (drop at rans) job ≤ 1
    by true same =
        let n = times_is job in
        let c : ◌≡◌ {A = ℕ} (cond (r.claim.job == job) 1 0) 1 = ap (λ b. cond b 1 0) same in
        let z : times_run (drop (at + 1) rans) job ≡ 0 = subst (λ j. times_run (drop (at + 1) rans) j ≡ 0) (same_eq r.claim.job job same) nothing in
        omega (arith, n, c, z)
    by false other = let n = times_later job other in let m = once job in omega (arith, n, m)

  -- it starts otherwise than its row says, or another does behind it
  pub differs_here : (rows : List Row) → (HasStart rows r.claim.job r.claim.start → ⊥) → StartDiffers rows (drop at rans) r.claim.job
  differs_here rows not_so = subst (λ l. StartDiffers rows l r.claim.job) (sym rest_is) (inl (refl, not_so))

  pub differs_later : (rows : List Row) (job : ℕ) → StartDiffers rows (drop (at + 1) rans) job → StartDiffers rows (drop at rans) job
  differs_later rows job later = subst (λ l. StartDiffers rows l job) (sym rest_is) (inr later)

  -- or it is sound
  pub sound_here : (rows : List Row) → IsSound rows r → All (λ x. IsSound rows x) (drop (at + 1) rans) → All (λ x. IsSound rows x) (drop at rans)
  sound_here rows sound all = subst (λ l. All (λ x. IsSound rows x) l) (sym rest_is) (All-cons (λ x. IsSound rows x) r (drop (at + 1) rans) sound all)

pub sound_end : (rows : List Row) (rans : List Kept) (at : ℕ) → length rans ≤ at → All (λ x. IsSound rows x) (drop at rans)
sound_end rows rans at past = subst (λ l. All (λ x. IsSound rows x) l) (sym (drop_all at rans past)) (All-nil (λ x. IsSound rows x))

-- a job's start is that of its row
pub starts_none : (rows : List Row) (job : ℕ) (start : Started) → start_at rows job ≡ None → HasStart rows job start → ⊥
starts_none rows job start none has =
    let some : start_at rows job ≡ Some has.0.start = ap (option_map (λ (row : Row). row.start)) has.1 in
    let no : None ≡ Some has.0.start = sym none ∙ some in cc

pub starts_other : (rows : List Row) (job : ℕ) (one start : Started) → start_at rows job ≡ Some one → HasStart rows job start → one ≡ start
starts_other rows job one start is has =
    let some : start_at rows job ≡ Some has.0.start = ap (option_map (λ (row : Row). row.start)) has.1 in
    same_Some one has.0.start (sym is ∙ some) ∙ has.2

pub starts_so : (rows : List Row) (job : ℕ) (one start : Started) → start_at rows job ≡ Some one → one ≡ start → HasStart rows job start
starts_so rows job one start is same = by (row_at rows job) refl where
  by : (found : Option Row) → row_at rows job ≡ found → HasStart rows job start
  by None none = absurd (let no : None ≡ Some one = sym (ap (option_map (λ (row : Row). row.start)) none) ∙ is in cc)
  by (Some row) there = (row, there, same_Some row.start one (sym (ap (option_map (λ (r : Row). r.start)) there) ∙ is) ∙ same)

-- ---- logs that are lent

logs_suc : (rans : List Kept) (k n : ℕ) → logs_from rans k (suc n) ≡ logs_from rans k n ++ log_in rans (k + n) ∷ []
logs_suc rans k zero = ap (λ i. log_in rans i ∷ []) (let e : k ≡ k + 0 = omega arith in e)
logs_suc rans k (suc n) =
    ap (λ l. log_in rans k ∷ l) (logs_suc rans (suc k) n ∙ ap (λ i. logs_from rans (suc k) n ++ log_in rans i ∷ []) (let e : suc k + n ≡ k + suc n = omega arith in e))

lent_more : (xs : List (Bor Log)) (x : Bor Log) → lent (xs ++ x ∷ []) ≡ lent xs ++ x.now ∷ []
lent_more [] x = refl
lent_more (y ∷ xs) x = ap (λ l. y.now ∷ l) (lent_more xs x)

pub logs_more : (rans : List Kept) (n : ℕ) (xs : List (Bor Log)) (x : Bor Log) (ys : List (Bor Log)) → ys ≡ xs ++ x ∷ [] → lent xs ≡ logs_from rans 1 n → x.now ≡ log_in rans (n + 1)
    → lent ys ≡ logs_from rans 1 (n + 1)
logs_more rans n xs x ys is had one =
    ap lent is ∙ (lent_more xs x ∙ (ap (λ l. l ++ x.now ∷ []) had ∙ (ap (λ l. logs_from rans 1 n ++ l ∷ []) (one ∙ ap (log_in rans) (let e : n + 1 ≡ 1 + n = omega arith in e))
    ∙ (sym (logs_suc rans 1 n) ∙ ap (logs_from rans 1) (let e : suc n ≡ n + 1 = omega arith in e)))))

-- the log of each job, where so many jobs have one
pub logs_at : (rans : List Kept) (n j k : ℕ) → k < n → log_at (logs_from rans j n) (suc k) ≡ log_in rans (j + k)
logs_at rans zero j k below = absurd (omega (arith, below))
logs_at rans (suc n) j zero below = ap (log_in rans) (let e : j ≡ j + 0 = omega arith in e)
logs_at rans (suc n) j (suc k) below = logs_at rans n (suc j) k (omega (arith, below)) ∙ ap (log_in rans) (let e : suc j + k ≡ j + suc k = omega arith in e)

pub logs_past : (rans : List Kept) (n j k : ℕ) → n ≤ k → log_at (logs_from rans j n) (suc k) ≡ []
logs_past rans zero j k past = refl
logs_past rans (suc n) j zero past = absurd (omega (arith, past))
logs_past rans (suc n) j (suc k) past = logs_past rans n (suc j) k (omega (arith, past))

pub logs_length : (rans : List Kept) (j n : ℕ) → length (logs_from rans j n) ≡ n
logs_length rans j zero = refl
logs_length rans j (suc n) = ap suc (logs_length rans (suc j) n)
