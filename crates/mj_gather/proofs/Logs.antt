-- Logs of which something is past.
use Rattle.std.specs.Prelude.{◌==◌, if◌then◌else◌}
use Rattle.std.proofs.Common.{◌≡◌, ◌⊎◌, inl, inr, ℕ, [], ◌∷◌, ◌++◌, Bool, true, false, refl, sym, ap, ◌∙◌, subst, T, eqb→eq}
use Rattle.mj_ask.specs.Fits.{is_shared}
use Rattle.mj_ask.specs.declared.ask.Ask.{Ask}
use Rattle.mj_ask.specs.declared.ask.Reply.{Reply}
use Rattle.mj_jobvm.specs.Run.{Log}
use Rattle.mj_core.proofs.Logs.{same_job, other_job}
use Rattle.mj_gather.specs.Rans.{EndsAtHalt}
use Rattle.mj_gather.specs.Merged.{shared_log, own, onward, behind, Left, with_left, heard, passed}

-- ---- one log

pub own_onward : (log : Log) → own log ++ onward log ≡ log
own_onward [] = refl
own_onward (x ∷ log) = by (is_shared x.0) (own_onward log) where
  by : (b : Bool) → own log ++ onward log ≡ log → (if b then [] else x ∷ own log) ++ (if b then x ∷ log else onward log) ≡ x ∷ log
  by true rest = refl
  by false rest = ap (λ l. x ∷ l) rest

pub onward_own : (log : Log) → own (onward log) ≡ []
onward_own [] = refl
onward_own (x ∷ log) = by (is_shared x.0) refl (onward_own log) where
  by : (b : Bool) → is_shared x.0 ≡ b → own (onward log) ≡ [] → own (if b then x ∷ log else onward log) ≡ []
  by true is rest = ap (λ b. if b then [] else x ∷ own log) is
  by false is rest = rest

pub onward_shared : (log : Log) → shared_log (onward log) ≡ shared_log log
onward_shared [] = refl
onward_shared (x ∷ log) = by (is_shared x.0) refl (onward_shared log) where
  by : (b : Bool) → is_shared x.0 ≡ b → shared_log (onward log) ≡ shared_log log
      → shared_log (if b then x ∷ log else onward log) ≡ (if b then x ∷ shared_log log else shared_log log)
  by true is rest = ap (λ b. if b then x ∷ shared_log log else shared_log log) is
  by false is rest = rest

pub ends_onward : (log : Log) → EndsAtHalt log → EndsAtHalt (onward log)
ends_onward [] ends = tt
ends_onward (x ∷ log) ends = by (is_shared x.0) (ends_onward log ends.1) where
  by : (b : Bool) → EndsAtHalt (onward log) → EndsAtHalt (if b then x ∷ log else onward log)
  by true rest = ends
  by false rest = rest

pub ends_behind : (log : Log) → EndsAtHalt log → EndsAtHalt (behind log)
ends_behind [] ends = tt
ends_behind (x ∷ log) ends = ends.1

-- a log of which nothing stands before its first served entry begins with that
pub opens : (x : Ask × Reply) (log : Log) → own (x ∷ log) ≡ [] → (is_shared x.0 ≡ true) × (shared_log (x ∷ log) ≡ x ∷ shared_log log)
opens x log none = by (is_shared x.0) none where
  by : (b : Bool) → (if b then [] else x ∷ own log) ≡ [] → (b ≡ true) × ((if b then x ∷ shared_log log else shared_log log) ≡ x ∷ shared_log log)
  by true none = (refl, refl)
  by false none = absurd (let no : x ∷ own log ≡ [] = none in cc)

-- and if it has none, it is empty
pub empty : (log : Log) → own log ≡ [] → shared_log log ≡ [] → log ≡ []
empty [] none is = refl
empty (x ∷ log) none is = absurd (let e = (opens x log none).1 in let no : x ∷ shared_log log ≡ [] = sym e ∙ is in cc)

-- ---- the logs of all jobs

pub same_eq : (j k : ℕ) → (j == k) ≡ true → j ≡ k
same_eq j k is = eqb→eq j k (subst T (sym is) tt)

-- whether two jobs are the same
pub jobs : (k j : ℕ) → (k ≡ j) ⊎ (k ≡ j → ⊥)
jobs k j = by (k == j) refl where
  by : (b : Bool) → (k == j) ≡ b → (k ≡ j) ⊎ (k ≡ j → ⊥)
  by true is = inl (same_eq k j is)
  by false is = inr (λ e. let no : true ≡ false = sym (same_job k j e) ∙ is in cc)

with_same : (left : Left) (j : ℕ) (log : Log) → with_left left j log j ≡ log
with_same left j log = ap (λ b. if◌then◌else◌ {A = Log} b log (left j)) (same_job j j refl)

with_other : (left : Left) (j k : ℕ) (log : Log) → (k ≡ j → ⊥) → with_left left j log k ≡ left k
with_other left j k log apart = ap (λ b. if◌then◌else◌ {A = Log} b log (left k)) (other_job k j apart)

pub passed_same : (left : Left) (j : ℕ) → passed left j j ≡ onward (left j)
passed_same left j = with_same left j (onward (left j))

pub passed_other : (left : Left) (j k : ℕ) → (k ≡ j → ⊥) → passed left j k ≡ left k
passed_other left j k apart = with_other left j k (onward (left j)) apart

pub heard_same : (left : Left) (j : ℕ) → heard left j j ≡ behind (left j)
heard_same left j = with_same left j (behind (left j))

pub heard_other : (left : Left) (j k : ℕ) → (k ≡ j → ⊥) → heard left j k ≡ left k
heard_other left j k apart = with_other left j k (behind (left j)) apart

-- what each log that is passed keeps
pub passed_keeps : (P : Log → Type 0) → ((l : Log) → P l → P (onward l)) → (left : Left) (j k : ℕ) → P (left k) → P (passed left j k)
passed_keeps P keeps left j k had = by (k == j) refl where
  by : (b : Bool) → (k == j) ≡ b → P (if b then onward (left j) else left k)
  by true is = keeps (left j) (subst (λ i. P (left i)) (same_eq k j is) had)
  by false is = had

pub heard_keeps : (P : Log → Type 0) → ((l : Log) → P l → P (behind l)) → (left : Left) (j k : ℕ) → P (left k) → P (heard left j k)
heard_keeps P keeps left j k had = by (k == j) refl where
  by : (b : Bool) → (k == j) ≡ b → P (if b then behind (left j) else left k)
  by true is = keeps (left j) (subst (λ i. P (left i)) (same_eq k j is) had)
  by false is = had

-- a passed log has what went before it
pub own_at : (left : Left) (j : ℕ) → own (left j) ++ passed left j j ≡ left j
own_at left j = ap (λ l. own (left j) ++ l) (passed_same left j) ∙ own_onward (left j)
