-- A woven history goes on with the logs.
use Rattle.std.specs.Prelude.{slice_get, slice_set}
use Rattle.std.proofs.Common.{◌≡◌, ℕ, zero, suc, List, [], ◌∷◌, ◌++◌, length, Option, Some, None, refl, sym, ap, ◌∙◌}
use Rattle.mj_ask.specs.declared.ask.Ask.{Ask}
use Rattle.mj_ask.specs.declared.ask.Reply.{Reply}
use Rattle.mj_sys.specs.declared.event.Event.{Event}
use Rattle.mj_sys.specs.History.{History}
use Rattle.mj_core.specs.declared.happened.Happened.{Happened}
use Rattle.mj_core.specs.Woven.{Logs, entry_at, woven, AreThere}

pub woven_append : (logs : Logs) (order more : List Happened) → woven logs (order ++ more) ≡ woven logs order ++ woven logs more
woven_append logs [] more = refl
woven_append logs (h ∷ order) more = by (entry_at logs h.job h.at) (woven_append logs order more) where
  by : (o : Option (Ask × Reply)) → woven logs (order ++ more) ≡ woven logs order ++ woven logs more
      → (elim o as (λ _. History) [ None ↦ woven logs (order ++ more) | Some e ↦ record { job = h.job; ask = e.0; reply = e.1 } ∷ woven logs (order ++ more) ])
      ≡ (elim o as (λ _. History) [ None ↦ woven logs order | Some e ↦ record { job = h.job; ask = e.0; reply = e.1 } ∷ woven logs order ]) ++ woven logs more
  by None rest = rest
  by (Some e) rest = ap (λ h'. record { job = h.job; ask = e.0; reply = e.1 } ∷ h') rest

-- all entries that are there stay
abbrev pub Stay : Logs → Logs → Type 0
Stay logs logs' = (job at : ℕ) (e : Ask × Reply) → entry_at logs job at ≡ Some e → entry_at logs' job at ≡ Some e

pub there_still : (logs logs' : Logs) (order : List Happened) → Stay logs logs' → AreThere logs order → AreThere logs' order
there_still logs logs' [] stay all = tt
there_still logs logs' (h ∷ order) stay all = ((all.0.0, stay h.job h.at all.0.0 all.0.1), there_still logs logs' order stay all.1)

pub there_more : (logs : Logs) (order more : List Happened) → AreThere logs order → AreThere logs more → AreThere logs (order ++ more)
there_more logs [] more all all' = all'
there_more logs (h ∷ order) more all all' = (all.0, there_more logs order more all.1 all')

-- what is woven of them stays
pub woven_still : (logs logs' : Logs) (order : List Happened) → Stay logs logs' → AreThere logs order → woven logs' order ≡ woven logs order
woven_still logs logs' [] stay all = refl
woven_still logs logs' (h ∷ order) stay all =
    let e = all.0.0 in
    let event : Event = record { job = h.job; ask = e.0; reply = e.1 } in
    ap (λ (o : Option (Ask × Reply)). elim o as (λ _. History) [ None ↦ woven logs' order | Some x ↦ record { job = h.job; ask = x.0; reply = x.1 } ∷ woven logs' order ])
    (stay h.job h.at e all.0.1)
    ∙ ap (λ rest. event ∷ rest) (woven_still logs logs' order stay all.1)
    ∙ sym (ap (λ (o : Option (Ask × Reply)). elim o as (λ _. History) [ None ↦ woven logs order | Some x ↦ record { job = h.job; ask = x.0; reply = x.1 } ∷ woven logs order ]) all.0.1)

-- ---- a log that goes on by an entry

get_more : {X : Type 0} (xs : List X) (x y : X) (k : ℕ) → slice_get xs k ≡ Some y → slice_get (xs ++ x ∷ []) k ≡ Some y
get_more [] x y k is = absurd (let no : None ≡ Some y = is in cc)
get_more (z ∷ xs) x y zero is = is
get_more (z ∷ xs) x y (suc k) is = get_more xs x y k is

get_last : {X : Type 0} (xs : List X) (x : X) → slice_get (xs ++ x ∷ []) (length xs) ≡ Some x
get_last [] x = refl
get_last (z ∷ xs) x = get_last xs x

set_here : {X : Type 0} (xs : List X) (k : ℕ) (x y : X) → slice_get xs k ≡ Some y → slice_get (slice_set xs k x) k ≡ Some x
set_here [] k x y is = absurd (let no : None ≡ Some y = is in cc)
set_here (z ∷ xs) zero x y is = refl
set_here (z ∷ xs) (suc k) x y is = set_here xs k x y is

module _ (logs : Logs) (k : ℕ) (log : List (Ask × Reply)) (is : slice_get logs k ≡ Some log) (e : Ask × Reply) where
  abbrev on : Logs
  on = slice_set logs k (log ++ e ∷ [])

  pub entry_last : entry_at on (suc k) (length log) ≡ Some e
  entry_last =
      ap (λ (o : Option (List (Ask × Reply))). elim o as (λ _. Option (Ask × Reply)) [ None ↦ None | Some l ↦ slice_get l (length log) ]) (set_here logs k (log ++ e ∷ []) log is)
      ∙ get_last log e

log_stays : (logs : Logs) (k : ℕ) (log : List (Ask × Reply)) (e : Ask × Reply) → slice_get logs k ≡ Some log → (j at : ℕ) (x : Ask × Reply)
    → entry_at logs (suc j) at ≡ Some x → entry_at (slice_set logs k (log ++ e ∷ [])) (suc j) at ≡ Some x
log_stays [] k log e is j at x there = absurd (let no : None ≡ Some x = there in cc)
log_stays (l ∷ logs) zero log e is zero at x there =
    let same : l ≡ log = (let s : Some l ≡ Some log = is in cc) in
    get_more log e x at (ap (λ m. slice_get m at) (sym same) ∙ there)
log_stays (l ∷ logs) zero log e is (suc j) at x there = there
log_stays (l ∷ logs) (suc k) log e is zero at x there = there
log_stays (l ∷ logs) (suc k) log e is (suc j) at x there = log_stays logs k log e is j at x there

pub entries_stay : (logs : Logs) (k : ℕ) (log : List (Ask × Reply)) (e : Ask × Reply) → slice_get logs k ≡ Some log → Stay logs (slice_set logs k (log ++ e ∷ []))
entries_stay logs k log e is zero at x there = absurd (let no : None ≡ Some x = there in cc)
entries_stay logs k log e is (suc j) at x there = log_stays logs k log e is j at x there

-- the history goes on by that event
pub woven_on : (logs : Logs) (k : ℕ) (log : List (Ask × Reply)) (e : Ask × Reply) (order : List Happened) → slice_get logs k ≡ Some log → AreThere logs order
    → woven (slice_set logs k (log ++ e ∷ [])) (order ++ record { job = suc k; at = length log } ∷ []) ≡ woven logs order ++ record { job = suc k; ask = e.0; reply = e.1 } ∷ []
woven_on logs k log e order is all =
    woven_append (slice_set logs k (log ++ e ∷ [])) order (record { job = suc k; at = length log } ∷ [])
    ∙ ap (λ h. h ++ woven (slice_set logs k (log ++ e ∷ [])) (record { job = suc k; at = length log } ∷ []))
    (woven_still logs (slice_set logs k (log ++ e ∷ [])) order (entries_stay logs k log e is) all)
    ∙ ap (λ (o : Option (Ask × Reply)). woven logs order ++ elim o as (λ _. History) [ None ↦ [] | Some x ↦ record { job = suc k; ask = x.0; reply = x.1 } ∷ [] ]) (entry_last logs k log is e)

pub there_on : (logs : Logs) (k : ℕ) (log : List (Ask × Reply)) (e : Ask × Reply) (order : List Happened) → slice_get logs k ≡ Some log → AreThere logs order
    → AreThere (slice_set logs k (log ++ e ∷ [])) (order ++ record { job = suc k; at = length log } ∷ [])
there_on logs k log e order is all =
    there_more (slice_set logs k (log ++ e ∷ [])) order (record { job = suc k; at = length log } ∷ [])
    (there_still logs (slice_set logs k (log ++ e ∷ [])) order (entries_stay logs k log e is) all) ((e, entry_last logs k log is e), tt)

-- ---- a job more, which asked nothing yet

job_stays : (logs : Logs) (j at : ℕ) (x : Ask × Reply) → entry_at logs (suc j) at ≡ Some x → entry_at (logs ++ [] ∷ []) (suc j) at ≡ Some x
job_stays [] j at x there = absurd (let no : None ≡ Some x = there in cc)
job_stays (l ∷ logs) zero at x there = there
job_stays (l ∷ logs) (suc j) at x there = job_stays logs j at x there

pub jobs_stay : (logs : Logs) → Stay logs (logs ++ [] ∷ [])
jobs_stay logs zero at x there = absurd (let no : None ≡ Some x = there in cc)
jobs_stay logs (suc j) at x there = job_stays logs j at x there
