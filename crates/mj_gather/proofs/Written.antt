-- What is written down of logs that are lent.
use Rattle.std.specs.Prelude.{◌==◌, slice_get, slice_set, if◌then◌else◌}
use Rattle.std.specs.List.{slice_index_or}
use Rattle.std.proofs.Common.{◌≡◌, inl, inr, ℕ, zero, suc, ◌+◌, ◌-◌, ◌<◌, ◌≤◌, List, [], ◌∷◌, ◌++◌, length, take, drop, replicate, Bool, true, false, Option, Some, None, refl, sym, ap, ◌∙◌, subst, arith, append_assoc, append-nil}
use Rattle.std.proofs.lemmas.List.{get_or-set_same, get_or-set_other}
use Rattle.std.proofs.Math.Path.{fun_ext}
use Rattle.mj_ask.specs.Fits.{is_shared}
use Rattle.mj_ask.specs.declared.ask.Ask.{Ask}
use Rattle.mj_ask.specs.declared.ask.Reply.{Reply}
use Rattle.mj_jobvm.specs.Run.{Log}
use Rattle.mj_sys.specs.declared.event.Event.{Event}
use Rattle.mj_sys.specs.History.{History}
use Rattle.mj_core.specs.declared.happened.Happened.{Happened}
use Rattle.mj_core.specs.Woven.{Logs, entry_at, woven, AreThere}
use Rattle.mj_core.proofs.Logs.{same_job, other_job}
use Rattle.mj_core.proofs.Weave.{woven_append, there_more}
use Rattle.mj_gather.specs.Merged.{own, onward, Left, with_left, passed, said}
use Rattle.mj_gather.specs.Lent.{log_at, place_at, left_at}
use Rattle.mj_gather.proofs.Logs.{jobs}

-- ---- one entry

-- the entry of a job's log at a place
pub entry_is : (logs : Logs) (k at : ℕ) (log : Log) (e : Ask × Reply) → slice_get logs k ≡ Some log → slice_get log at ≡ Some e → entry_at logs (suc k) at ≡ Some e
entry_is logs k at log e here there = ap (λ (o : Option Log). elim o as (λ _. Option (Ask × Reply)) [ None ↦ None | Some l ↦ slice_get l at ]) here ∙ there

-- it is written down
pub woven_one : (logs : Logs) (order : List Happened) (job at : ℕ) (e : Ask × Reply) → entry_at logs job at ≡ Some e
    → woven logs (order ++ record { job = job; at = at } ∷ []) ≡ woven logs order ++ record { job = job; ask = e.0; reply = e.1 } ∷ []
woven_one logs order job at e there =
    woven_append logs order (record { job = job; at = at } ∷ [])
    ∙ ap (λ (o : Option (Ask × Reply)). woven logs order ++ elim o as (λ _. History) [ None ↦ [] | Some x ↦ record { job = job; ask = x.0; reply = x.1 } ∷ [] ]) there

pub there_one : (logs : Logs) (order : List Happened) (job at : ℕ) (e : Ask × Reply) → entry_at logs job at ≡ Some e → AreThere logs order
    → AreThere logs (order ++ record { job = job; at = at } ∷ [])
there_one logs order job at e there all = there_more logs order (record { job = job; at = at } ∷ []) all ((e, there), tt)

-- ---- what is left behind places

-- what is left of a log begins with the entry at its place
pub drop_here : {X : Type 0} (xs : List X) (at : ℕ) (x : X) → slice_get xs at ≡ Some x → drop at xs ≡ x ∷ drop (at + 1) xs
drop_here [] at x is = absurd (let no : None ≡ Some x = is in cc)
drop_here (y ∷ xs) zero x is = let same : y ≡ x = (let s : Some y ≡ Some x = is in cc) in ap (λ z. z ∷ xs) same
drop_here (y ∷ xs) (suc at) x is = drop_here xs at x is ∙ ap (λ n. x ∷ drop n (y ∷ xs)) (let e : suc (at + 1) ≡ suc at + 1 = omega arith in e)

pub log_there : (logs : Logs) (k : ℕ) (log : Log) → slice_get logs k ≡ Some log → log_at logs (suc k) ≡ log
log_there [] k log is = absurd (let no : None ≡ Some log = is in cc)
log_there (l ∷ logs) zero log is = let same : l ≡ log = (let s : Some l ≡ Some log = is in cc) in same
log_there (l ∷ logs) (suc k) log is = log_there logs k log is

index_past : {X : Type 0} (xs : List X) (k : ℕ) (d : X) → length xs ≤ k → slice_index_or xs k d ≡ d
index_past [] k d past = refl
index_past (x ∷ xs) zero d past = absurd (omega (arith, past))
index_past (x ∷ xs) (suc k) d past = index_past xs k d (omega (arith, past))

drop_none : {X : Type 0} (at : ℕ) → ◌≡◌ {A = List X} (drop at []) []
drop_none zero = refl
drop_none (suc at) = refl

-- nothing is left where there is no log
pub left_zero : (logs : Logs) (places : List ℕ) → left_at logs places 0 ≡ []
left_zero logs places = refl

pub left_past : (logs : Logs) (places : List ℕ) (k : ℕ) → length logs ≤ k → left_at logs places (suc k) ≡ []
left_past logs places k past = ap (λ l. drop (place_at places (suc k)) l) (index_past logs k [] past) ∙ drop_none (place_at places (suc k))

pub left_nobody : (logs : Logs) (places : List ℕ) (job : ℕ) → job ≡ 0 → left_at logs places job ≡ []
left_nobody logs places job is = subst (λ (j : ℕ). left_at logs places j ≡ []) (sym is) refl

pub left_beyond : (logs : Logs) (places : List ℕ) (job k : ℕ) → job ≡ suc k → length logs ≤ k → left_at logs places job ≡ []
left_beyond logs places job k is past = subst (λ (j : ℕ). left_at logs places j ≡ []) (sym is) (left_past logs places k past)

-- a job of which nothing is left has nothing that is passed
pub passed_none : (left : Left) (job : ℕ) → left job ≡ [] → left ≡ passed left job
passed_none left job none = fun_ext (λ k. sym (by k (k == job) refl)) where
  by : (k : ℕ) (b : Bool) → (k == job) ≡ b → (if◌then◌else◌ {A = Log} b (onward (left job)) (left k)) ≡ left k
  by k true is = elim (jobs k job) [
    | inl e ↦ ap onward none ∙ (sym none ∙ ap left (sym e))
    | inr apart ↦ absurd (let no : true ≡ false = sym is ∙ other_job k job apart in cc)
  ]
  by k false is = refl

pub said_none : (logs : Logs) (left : Left) (order : List Happened) (job : ℕ) → left job ≡ [] → woven logs order ≡ woven logs order ++ said job (own (left job))
said_none logs left order job none = sym (append-nil (woven logs order)) ∙ ap (λ l. woven logs order ++ said job (own l)) (sym none)

-- a place is another now
pub left_set : (logs : Logs) (places : List ℕ) (k place : ℕ) → k < length places
    → left_at logs (slice_set places k place) ≡ with_left (left_at logs places) (suc k) (drop place (log_at logs (suc k)))
left_set logs places k place within = fun_ext (λ j. by j) where
  at : (j : ℕ) (b : Bool) → (suc j == suc k) ≡ b
      → left_at logs (slice_set places k place) (suc j) ≡ (if◌then◌else◌ {A = Log} b (drop place (log_at logs (suc k))) (left_at logs places (suc j)))
  at j true is = elim (jobs (suc j) (suc k)) [
    | inl e ↦ let same : j ≡ k = (let s : suc j ≡ suc k = e in cc) in
        subst (λ i. left_at logs (slice_set places k place) (suc i) ≡ drop place (log_at logs (suc k))) (sym same)
        (ap (λ n. drop n (log_at logs (suc k))) (get_or-set_same places k place 0 within))
    | inr apart ↦ absurd (let no : true ≡ false = sym is ∙ other_job (suc j) (suc k) apart in cc)
  ]
  at j false is = ap (λ n. drop n (log_at logs (suc j))) (get_or-set_other places k j place 0 apart) where
    apart : j ≡ k → ⊥
    apart e = let no : true ≡ false = sym (same_job (suc j) (suc k) (ap suc e)) ∙ is in cc

  by : (j : ℕ) → left_at logs (slice_set places k place) j ≡ with_left (left_at logs places) (suc k) (drop place (log_at logs (suc k))) j
  by zero = sym (ap (λ b. if◌then◌else◌ {A = Log} b (drop place (log_at logs (suc k))) []) (other_job 0 (suc k) (λ e. omega (arith, e))))
  by (suc j) = at j (suc j == suc k) refl

-- no place is past
pub left_all : (n : ℕ) (logs : Logs) → left_at logs (replicate n 0) ≡ log_at logs
left_all n logs = fun_ext (λ j. ap (λ k. drop k (log_at logs j)) (none n j)) where
  zeros : (n k : ℕ) → slice_index_or (replicate n zero) k zero ≡ zero
  zeros zero k = refl
  zeros (suc n) zero = refl
  zeros (suc n) (suc k) = zeros n k

  none : (n j : ℕ) → place_at (replicate n 0) j ≡ 0
  none n zero = refl
  none n (suc k) = zeros n k

-- ---- a job's own entries, one after the other

-- so much of them is written down, and what is left goes on with the others
pub record AreWritten (logs : Logs) (job : ℕ) (log : Log) (from at : ℕ) (old new : List Happened) : Type 0 where
  pub written : woven logs new ++ said job (own (drop at log)) ≡ woven logs old ++ said job (own (drop from log))
  pub left : onward (drop at log) ≡ onward (drop from log)
  pub there : AreThere logs old → AreThere logs new

pub written_none : (logs : Logs) (job : ℕ) (log : Log) (from : ℕ) (old : List Happened) → AreWritten logs job log from from old old
written_none logs job log from old = record { written = refl; left = refl; there = λ all. all }

module _ (logs : Logs) (k : ℕ) (log : Log) (from at : ℕ) (old new : List Happened) (here : slice_get logs k ≡ Some log) (so : AreWritten logs (suc k) log from at old new) where
  -- one more is
  pub written_more : (x : Ask × Reply) → slice_get log at ≡ Some x → is_shared x.0 ≡ false
      → AreWritten logs (suc k) log from (at + 1) old (new ++ record { job = suc k; at = at } ∷ [])
  written_more x is unshared =
      let entry = entry_is logs k at log x here is in
      let next : drop at log ≡ x ∷ drop (at + 1) log = drop_here log at x is in
      let own_is : own (drop at log) ≡ x ∷ own (drop (at + 1) log) = ap own next ∙ ap (λ b. if◌then◌else◌ {A = Log} b [] (x ∷ own (drop (at + 1) log))) unshared in
      let left_is : onward (drop at log) ≡ onward (drop (at + 1) log) =
      ap onward next ∙ ap (λ b. if◌then◌else◌ {A = Log} b (x ∷ drop (at + 1) log) (onward (drop (at + 1) log))) unshared in
      let event : Event = record { job = suc k; ask = x.0; reply = x.1 } in
      record {
        written = ap (λ h. h ++ said (suc k) (own (drop (at + 1) log))) (woven_one logs new (suc k) at x entry)
            ∙ (append_assoc (woven logs new) (event ∷ []) (said (suc k) (own (drop (at + 1) log)))
            ∙ (ap (λ l. woven logs new ++ said (suc k) l) (sym own_is) ∙ so.written));
        left = sym left_is ∙ so.left;
        there = λ all. there_one logs new (suc k) at x entry (so.there all);
      }

  -- all are, where the next isn't its own, or there is none
  pub written_all : own (drop at log) ≡ [] → onward (drop at log) ≡ drop at log
      → (woven logs new ≡ woven logs old ++ said (suc k) (own (drop from log))) × (drop at log ≡ onward (drop from log))
  written_all none rest = (
    sym (append-nil (woven logs new)) ∙ (ap (λ l. woven logs new ++ said (suc k) l) (sym none) ∙ so.written),
    sym rest ∙ so.left,
  )

-- the next entry is one that the system served, or there is none
pub stops_at : (log : Log) (at : ℕ) (x : Ask × Reply) → slice_get log at ≡ Some x → is_shared x.0 ≡ true → (own (drop at log) ≡ []) × (onward (drop at log) ≡ drop at log)
stops_at log at x is shared =
    let next : drop at log ≡ x ∷ drop (at + 1) log = drop_here log at x is in (
      ap own next ∙ ap (λ b. if◌then◌else◌ {A = Log} b [] (x ∷ own (drop (at + 1) log))) shared,
      ap onward next ∙ (ap (λ b. if◌then◌else◌ {A = Log} b (x ∷ drop (at + 1) log) (onward (drop (at + 1) log))) shared ∙ sym next),
    )

-- nothing is left behind all entries
pub drop_past : {X : Type 0} (xs : List X) (at : ℕ) → slice_get xs at ≡ None → drop at xs ≡ []
drop_past [] zero none = refl
drop_past [] (suc at) none = refl
drop_past (x ∷ xs) zero none = absurd (let no : Some x ≡ None = none in cc)
drop_past (x ∷ xs) (suc at) none = drop_past xs at none

pub stops_past : (log : Log) (at : ℕ) → slice_get log at ≡ None → (own (drop at log) ≡ []) × (onward (drop at log) ≡ drop at log)
stops_past log at none = let e : drop at log ≡ [] = drop_past log at none in (ap own e, ap onward e ∙ sym e)

-- places of which none was there before
pub none_yet : (new old : List ℕ) (jobs len : ℕ) → new ≡ take jobs old ++ replicate (jobs - len) 0 → old ≡ [] → len ≡ 0 → new ≡ replicate jobs 0
none_yet new old jobs len is none first =
    is ∙ (ap (λ l. take jobs l ++ replicate (jobs - len) 0) none ∙ (ap (λ l. l ++ replicate (jobs - len) 0) (nothing jobs)
    ∙ ap (λ n. replicate n 0) (let e : jobs - len ≡ jobs = omega (arith, first) in e))) where
      nothing : (n : ℕ) → ◌≡◌ {A = List ℕ} (take n []) []
      nothing zero = refl
      nothing (suc n) = refl
