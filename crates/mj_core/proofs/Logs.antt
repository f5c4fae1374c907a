-- What a woven history has of each job.
use Rattle.std.specs.Prelude.{T, ◌==◌, slice_get, if◌then◌else◌}
use Rattle.std.proofs.Common.{◌≡◌, ℕ, zero, suc, List, [], ◌∷◌, Bool, true, false, Option, Some, None, refl, sym, ap, ◌∙◌, subst, eqb→eq, eq-eqb}
use Rattle.mj_ask.specs.Fits.{is_shared}
use Rattle.mj_ask.specs.declared.ask.Ask.{Ask}
use Rattle.mj_ask.specs.declared.ask.Reply.{Reply}
use Rattle.mj_sys.specs.declared.event.Event.{Event}
use Rattle.mj_sys.specs.History.{History, log_of}
use Rattle.mj_core.specs.declared.happened.Happened.{Happened}
use Rattle.mj_core.specs.Happen.{shared_of}
use Rattle.mj_core.specs.Woven.{Logs, entry_at, woven}

-- whether two jobs are the same, as a test
pub same_job : (h job : ℕ) → h ≡ job → (h == job) ≡ true
same_job h job is = eq-eqb h job is

pub other_job : (h job : ℕ) → (h ≡ job → ⊥) → (h == job) ≡ false
other_job h job apart = at (h == job) refl where
  at : (b : Bool) → (h == job) ≡ b → b ≡ false
  at true is = absurd (apart (eqb→eq h job (subst T (sym is) tt)))
  at false is = refl

-- a job without an entry in its log has no event
pub silent : (logs : Logs) (job : ℕ) (order : List Happened) → ((at : ℕ) → entry_at logs job at ≡ None) → log_of job (woven logs order) ≡ []
silent logs job [] none = refl
silent logs job (h ∷ order) none = by (entry_at logs h.job h.at) refl (silent logs job order none) where
  by : (o : Option (Ask × Reply)) → entry_at logs h.job h.at ≡ o → log_of job (woven logs order) ≡ []
      → log_of job (elim o as (λ _. History) [ None ↦ woven logs order | Some e ↦ record { job = h.job; ask = e.0; reply = e.1 } ∷ woven logs order ]) ≡ []
  by None is rest = rest
  by (Some e) is rest =
      let other : (h.job == job) ≡ false = other_job h.job job (λ same. let no : None ≡ Some e = sym (none h.at) ∙ ap (λ j. entry_at logs j h.at) (sym same) ∙ is in cc) in
      ap (λ b. if b then (e.0, e.1) ∷ log_of job (woven logs order) else log_of job (woven logs order)) other ∙ rest

-- there is no job 0, and none behind the last
pub silent_zero : (logs : Logs) (order : List Happened) → log_of zero (woven logs order) ≡ []
silent_zero logs order = silent logs zero order (λ at. refl)

pub silent_past : (logs : Logs) (k : ℕ) (order : List Happened) → slice_get logs k ≡ None → log_of (suc k) (woven logs order) ≡ []
silent_past logs k order past =
    silent logs (suc k) order (λ at. ap (λ (o : Option (List (Ask × Reply))). elim o as (λ _. Option (Ask × Reply)) [ None ↦ None | Some log ↦ slice_get log at ]) past)

-- an event of another job
pub log_other : (job : ℕ) (e : Event) → (e.job ≡ job → ⊥) → log_of job (e ∷ []) ≡ []
log_other job e other = ap (λ b. if b then (e.ask, e.reply) ∷ [] else []) (other_job e.job job other)

pub log_own : (job : ℕ) (e : Event) → e.job ≡ job → log_of job (e ∷ []) ≡ (e.ask, e.reply) ∷ []
log_own job e own = ap (λ b. if b then (e.ask, e.reply) ∷ [] else []) (same_job e.job job own)

-- where a job has no event, it has no shared one
pub shared_silent : (job : ℕ) (history : History) → log_of job history ≡ [] → log_of job (shared_of history) ≡ []
shared_silent job [] none = refl
shared_silent job (e ∷ history) none = by (e.job == job) (is_shared e.ask) refl none (shared_silent job history) where
  by : (b c : Bool) → (e.job == job) ≡ b → (if b then (e.ask, e.reply) ∷ log_of job history else log_of job history) ≡ []
      → (log_of job history ≡ [] → log_of job (shared_of history) ≡ [])
      → log_of job (if c then e ∷ shared_of history else shared_of history) ≡ []
  by true c is some rest = absurd (let no : (e.ask, e.reply) ∷ log_of job history ≡ [] = some in cc)
  by false true is none rest = ap (λ b. if b then (e.ask, e.reply) ∷ log_of job (shared_of history) else log_of job (shared_of history)) is ∙ rest none
  by false false is none rest = rest none
