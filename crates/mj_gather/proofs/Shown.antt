-- What a run shows is what is woven.
use Rattle.std.specs.Prelude.{slice_get}
use Rattle.std.specs.Borrow.{Bor}
use Rattle.std.specs.Option.{option_map}
use Rattle.std.proofs.Common.{◌≡◌, ◌⊎◌, inl, inr, ℕ, zero, suc, ◌+◌, ◌-◌, ◌<◌, ◌≤◌, List, [], ◌∷◌, length, drop, get_or, Option, Some, None, refl, sym, ap, ◌∙◌, subst, arith, length-drop}
use Rattle.std.proofs.lemmas.List.{drop_all, length-map}
use Rattle.std.proofs.lemmas.Option.{slice_get-map, slice_get-get_or, none-some}
use Rattle.mj_ask.specs.declared.ask.Ask.{Ask}
use Rattle.mj_ask.specs.declared.ask.Reply.{Reply}
use Rattle.mj_jobvm.specs.Run.{Log}
use Rattle.mj_core.specs.declared.happened.Happened.{Happened}
use Rattle.mj_core.specs.Woven.{entry_at, woven, AreThere}
use Rattle.mj_core.proofs.Views.{event_at}
use Rattle.mj_gather.specs.Lent.{lent, log_at, left_at}
use Rattle.mj_gather.proofs.Written.{left_past}

-- an entry of a log that is lent stands in that
entry_lent : (logs : List (Bor Log)) (job at : ℕ) (e : Ask × Reply) → entry_at (lent logs) job at ≡ Some e
    → (k : ℕ) × (job ≡ suc k) × (log : Bor Log) × (slice_get logs k ≡ Some log) × (slice_get log.now at ≡ Some e)
entry_lent logs zero at e is = absurd (none-some e is)
entry_lent logs (suc k) at e is = by (slice_get logs k) refl where
  mapped : (found : Option (Bor Log)) → slice_get logs k ≡ found
      → entry_at (lent logs) (suc k) at ≡ (elim (option_map (λ (l : Bor Log). l.now) found) as (λ _. Option (Ask × Reply)) [ None ↦ None | Some log ↦ slice_get log at ])
  mapped found here =
      ap (λ (o : Option Log). elim o as (λ _. Option (Ask × Reply)) [ None ↦ None | Some log ↦ slice_get log at ])
      (slice_get-map (λ (l : Bor Log). l.now) logs k ∙ ap (option_map (λ (l : Bor Log). l.now)) here)

  by : (found : Option (Bor Log)) → slice_get logs k ≡ found
      → (j : ℕ) × (suc k ≡ suc j) × (log : Bor Log) × (slice_get logs j ≡ Some log) × (slice_get log.now at ≡ Some e)
  by None past = absurd (none-some e (sym (mapped None past) ∙ is))
  by (Some log) here = (k, refl, log, here, sym (mapped (Some log) here) ∙ is)

-- what is written down at a place stands in a log, and is the event at that place
pub lent_at : (logs : List (Bor Log)) (order : List Happened) → AreThere (lent logs) order → (i : ℕ) (h : Happened) → slice_get order i ≡ Some h
    → (e : Ask × Reply) × (k : ℕ) × (h.job ≡ suc k) × (log : Bor Log) × (slice_get logs k ≡ Some log) × (slice_get log.now h.at ≡ Some e)
    × (slice_get (woven (lent logs) order) i ≡ Some (record { job = h.job; ask = e.0; reply = e.1 }))
lent_at logs order there i h is =
    let found = event_at (lent logs) order there i h is in
    let s = entry_lent logs h.job h.at found.0 found.1 in
    (found.0, s.0, s.1, s.2, s.3, s.4, found.2)

-- the log of a job that is lent
pub log_lent : (logs : List (Bor Log)) (k : ℕ) (log : Bor Log) → slice_get logs k ≡ Some log → log_at (lent logs) (suc k) ≡ log.now
log_lent [] k log is = absurd (none-some log is)
log_lent (l ∷ logs) zero log is = let same : l ≡ log = (let s : Some l ≡ Some log = is in cc) in ap (λ (x : Bor Log). x.now) same
log_lent (l ∷ logs) (suc k) log is = log_lent logs k log is

pub log_none : (logs : List (Bor Log)) (k : ℕ) → slice_get logs k ≡ None → log_at (lent logs) (suc k) ≡ []
log_none [] k is = refl
log_none (l ∷ logs) zero is = absurd (none-some l (sym is))
log_none (l ∷ logs) (suc k) is = log_none logs k is

-- it is one of those that are lent
pub among : (logs : List (Bor Log)) (k : ℕ) (log : Bor Log) → slice_get logs k ≡ Some log → slice_get (lent logs) k ≡ Some log.now
among logs k log is = slice_get-map (λ (b : Bor Log). b.now) logs k ∙ ap (option_map (λ (b : Bor Log). b.now)) is

pub as_many_lent : (logs : List (Bor Log)) → length (lent logs) ≡ length logs
as_many_lent logs = length-map logs (λ (b : Bor Log). b.now)

-- what stands at a place that is there stands there, whatever would stand where there is none
pub same_default : (xs : List ℕ) (i : ℕ) (c d : ℕ) → i < length xs → get_or xs i c ≡ get_or xs i d
same_default [] i c d below = absurd (omega (arith, below))
same_default (x ∷ xs) zero c d below = refl
same_default (x ∷ xs) (suc i) c d below = same_default xs i c d (omega (arith, below))

-- something is left of a log that is longer than what is past
pub left_more : (logs : List (Bor Log)) (places : List ℕ) (k : ℕ) (b : Bor Log) (d : ℕ) → k < length logs → k < length places → b ≡ get_or logs k b
    → get_or places k d < length b.now → left_at (lent logs) places (k + 1) ≡ [] → ⊥
left_more logs places k b d within inside is more none =
    let here : slice_get logs k ≡ Some b = slice_get-get_or logs k b within ∙ ap Some (sym is) in
    let log : log_at (lent logs) (suc k) ≡ b.now = log_lent logs k b here in
    let place : get_or places k d ≡ get_or places k 0 = same_default places k d 0 inside in
    let e : suc k ≡ k + 1 = omega arith in
    let left : drop (get_or places k 0) b.now ≡ [] = ap (drop (get_or places k 0)) (sym log) ∙ (ap (left_at (lent logs) places) e ∙ none) in
    let n : length (drop (get_or places k 0) b.now) ≡ 0 = ap length left in
    let m : length (drop (get_or places k 0) b.now) ≡ length b.now - get_or places k 0 = length-drop (get_or places k 0) b.now in
    omega (arith, n, m, place, more)

-- ---- nothing is left of the first logs

pub none_first : (logs : List (Bor Log)) (places : List ℕ) (job : ℕ) → job ≤ 0 → left_at (lent logs) places job ≡ []
none_first logs places zero few = refl
none_first logs places (suc k) few = absurd (omega (arith, few))

one_of : (k n : ℕ) → (k ≤ n) ⊎ (n < k)
one_of k n = grind arith

pub none_more : (logs : List (Bor Log)) (places : List ℕ) (k : ℕ) (b : Bor Log) (d : ℕ) → k < length logs → k < length places → b ≡ get_or logs k b
    → length b.now ≤ get_or places k d → ((job : ℕ) → job ≤ k → left_at (lent logs) places job ≡ []) → (job : ℕ) → job ≤ k + 1 → left_at (lent logs) places job ≡ []
none_more logs places k b d within inside is past before job few = elim (one_of job k) [
  | inl less ↦ before job less
  | inr more ↦ subst (λ (j : ℕ). left_at (lent logs) places j ≡ []) (let e : suc k ≡ job = omega (arith, few, more) in e) here
] where
  lend : slice_get logs k ≡ Some b
  lend = slice_get-get_or logs k b within ∙ ap Some (sym is)

  here : left_at (lent logs) places (suc k) ≡ []
  here =
      ap (drop (get_or places k 0)) (log_lent logs k b lend) ∙ (ap (λ n. drop n b.now) (same_default places k 0 d inside)
      ∙ drop_all (get_or places k d) b.now past)

pub none_at_all : (logs : List (Bor Log)) (places : List ℕ) (n : ℕ) → length logs ≤ n → ((job : ℕ) → job ≤ n → left_at (lent logs) places job ≡ [])
    → (job : ℕ) → left_at (lent logs) places job ≡ []
none_at_all logs places n past none job = elim (one_of job n) [
  | inl few ↦ none job few
  | inr more ↦ beyond job more
] where
  beyond : (j : ℕ) → n < j → left_at (lent logs) places j ≡ []
  beyond zero more = refl
  beyond (suc k) more = left_past (lent logs) places k (let m = as_many_lent logs in omega (arith, m, past, more))
