-- What a core shows of a job at its ask is what the job has there.
use Rattle.std.specs.Prelude.{◌⊎◌, slice_get, reverse, if◌then◌else◌, IfSome, IfNone}
use Rattle.std.proofs.Common.{◌≡◌, ℕ, suc, ◌<◌, ◌≤◌, List, [], ◌∷◌, length, Bool, true, false, Option, Some, None, refl, sym, ap, ◌∙◌, subst, arith, inl, inr}
use Rattle.std.proofs.lemmas.Option.{slice_get_within}
use Rattle.mj_ask.specs.declared.ask.Ask.{Ask}
use Rattle.mj_load.specs.Image.{Loaded, program_of}
use Rattle.mj_jobs.specs.Rows.{Row, row_at, rows_limit}
use Rattle.mj_semantics.specs.State.{State, places}
use Rattle.mj_semantics.specs.Job.{Start}
use Rattle.mj_jobvm.specs.Run.{Log}
use Rattle.mj_sys.specs.Shared.{Shared}
use Rattle.mj_sys.specs.History.{state_of, log_of}
use Rattle.mj_sys.specs.System.{Recorded, Claimed}
use Rattle.mj_core.specs.declared.happened.Happened.{Happened}
use Rattle.mj_core.specs.Woven.{woven}
use Rattle.mj_core.specs.Runs.{start_in}
use Rattle.mj_core.specs.Shown.{AtAsk, Shown, stand_at}
use Rattle.mj_core.specs.Gives.{StandsAt}
use Rattle.mj_core.specs.Asking.{IsSeenAt}
use Rattle.mj_core.specs.Answering.{Answering}
use Rattle.mj_core.specs.Ties.{Placed, IsStanding, stand_by, waits_by, stand_of}
use Rattle.mj_core.specs.Kept.{AreKept, IsSeenSlot, logs_of, shown}
use Rattle.mj_core.proofs.Histories.{same_state, starts, none_past}
use Rattle.mj_core.proofs.Views.{shown_run}
use Rattle.mj_core.proofs.Giving.{each_at, each_past}
use Rattle.mj_core.proofs.Stepping.{stands_nowhere}

-- what holds is so where there is none
pub if_none : {X P : Type 0} (r : Option X) → P → IfNone r P
if_none None p = p
if_none (Some x) p = tt

-- and where there is none, it is so of each
pub not_some : {X : Type 0} (r : Option X) (P : X → Type 0) → r ≡ None → IfSome r P
not_some None P is = tt
not_some (Some x) P is = absurd (let no : Some x ≡ None = is in cc)

-- what is shown of a state at an ask is what it has
seen_by : (pending : Option Ask) (log : Log) (s : State) (at : AtAsk) → stand_by pending log s ≡ Some at
    → (at.locals ≡ s.locals) × (at.places ≡ places s) × (pending ≡ (if at.answered then None else Some at.ask))
seen_by (Some a) log s at is =
    let same : record { ask = a; locals = s.locals; places = places s; answered = false } ≡ at = cc in
    let P : AtAsk → Type 0 = λ t. (t.locals ≡ s.locals) × (t.places ≡ places s) × (Some a ≡ (if t.answered then None else Some t.ask)) in
    subst P same (refl, refl, refl)
seen_by None log s at is = by (reverse log) is where
  by : (r : Log) → (elim r as (λ _. Option AtAsk) [ [] ↦ None | e ∷ rest ↦ Some (record { ask = e.0; locals = s.locals; places = places s; answered = true }) ]) ≡ Some at
      → (at.locals ≡ s.locals) × (at.places ≡ places s) × (None ≡ (if at.answered then None else Some at.ask))
  by [] none = absurd (let no : None ≡ Some at = none in cc)
  by (e ∷ rest) one =
      let some : Some (record { ask = e.0; locals = s.locals; places = places s; answered = true }) ≡ Some at = one in
      let same : record { ask = e.0; locals = s.locals; places = places s; answered = true } ≡ at = cc in
      let P : AtAsk → Type 0 = λ t. (t.locals ≡ s.locals) × (t.places ≡ places s) × (None ≡ (if t.answered then None else Some t.ask)) in
      subst P same (refl, refl, refl)

module _ {A : Type 0} (ans : Answering A) (image : Loaded) (opening : Shared) (system : Recorded) (slots : List (Placed A)) (waiting : Option Claimed) (order : List Happened)
    (kept : AreKept ans image opening system slots waiting order) (over : List Bool) (self : Shown) (view : shown image slots order over rows_limit ≡ self)
    (job k : ℕ) (number : job ≡ suc k) where
  -- the slot of a job is as it is shown
  module _ (few : length (state_of opening system.history).rows ≤ rows_limit) (slot : Placed A) (here : slice_get slots k ≡ Some slot) where
    within : k < rows_limit
    within =
        let its = shown_run ans image opening system slots waiting order kept k slot here in
        let less : k < length (state_of opening system.history).rows =
        slice_get_within (state_of opening system.history).rows k its.0
        (ap (λ (s : Shared). row_at s.rows (suc k)) (sym (same_state ans image opening system slots waiting order kept)) ∙ its.1) in
        omega (arith, few, less)

    first : IsSeenSlot opening (shown image slots order over rows_limit) (suc k) slot
    first =
        let its = shown_run ans image opening system slots waiting order kept k slot here in
        let at = kept.tied k slot here in
        record {
          row = its.0;
          there = its.1;
          run = its.2;
          log = sym at.logged;
          shown = each_at None (λ (s : Placed A). stand_of s) rows_limit k slots slot within here;
          stands = stands its.0 its.1 at.stands;
        } where
          stands : (row : Row) → row_at (state_of opening (woven (logs_of slots) order)).rows (suc k) ≡ Some row
              → IsStanding image slot
              → ((slot.at_ask ≡ false) × (slot.job.run.pending ≡ None))
              ⊎ ((slot.at_ask ≡ true)
              × ((to : AtAsk) × (stand_of slot ≡ Some to) × StandsAt (program_of image) (start_in (suc k) row.start) (log_of (suc k) (woven (logs_of slots) order)) to))
          stands row is (inl none) = inl none
          stands row is (inr (on, (to, shows, so))) =
              let P : Start → Type 0 = λ s. StandsAt (program_of image) s slot.job.run.log to in
              let Q : Log → Type 0 = λ l. StandsAt (program_of image) (start_in (suc k) row.start) l to in
              inr (
                on,
                (
                  to,
                  shows,
                  subst Q (sym (kept.tied k slot here).logged) (subst P (starts ans image opening system slots waiting order kept k slot row here is) so),
                ),
              )

    pub seen_slot : IsSeenSlot opening self job slot
    seen_slot =
        let P : Shown → Type 0 = λ s. IsSeenSlot opening s (suc k) slot in
        let Q : ℕ → Type 0 = λ j. IsSeenSlot opening self j slot in
        subst Q (sym number) (subst P view first)

  -- without one it stands at no ask
  pub unseen : slice_get slots k ≡ None → (log_of job self.history ≡ []) × (stand_at self.stands job ≡ None)
  unseen past =
      let P : Shown → Type 0 = λ s. (log_of (suc k) s.history ≡ []) × (stand_at s.stands (suc k) ≡ None) in
      let Q : ℕ → Type 0 = λ j. (log_of j self.history ≡ []) × (stand_at self.stands j ≡ None) in
      subst Q (sym number) (subst P view (
        none_past ans image opening system slots waiting order kept k past,
        each_past None (λ (s : Placed A). stand_of s) rows_limit k slots past,
      ))

-- what is seen of a slot that stands at an ask, and of one that doesn't
module _ {A : Type 0} (opening : Shared) (self : Shown) (job : ℕ) (slot : Placed A) (seen : IsSeenSlot opening self job slot) where
  pub stands_none : slot.at_ask ≡ false → stand_at self.stands job ≡ None
  stands_none off =
      let run = slot.job.run in
      seen.shown
      ∙ ap (λ b. if b then stand_by run.pending run.log run.at.state else waits_by run.pending run.at.state) off
      ∙ stands_nowhere run.pending run.at.state (by seen.stands) where
        by : ((slot.at_ask ≡ false) × (slot.job.run.pending ≡ None))
            ⊎ ((slot.at_ask ≡ true)
            × ((at : AtAsk) × (stand_of slot ≡ Some at) × StandsAt (program_of self.image) (start_in job seen.row.start) (log_of job self.history) at))
            → slot.job.run.pending ≡ None
        by (inl none) = none.1
        by (inr some) = absurd (let no : true ≡ false = sym some.0 ∙ off in cc)

  pub stands_some : slot.at_ask ≡ true
      → (at : AtAsk) × (stand_at self.stands job ≡ Some at) × IsSeenAt slot.job.run at
      × StandsAt (program_of self.image) (start_in job seen.row.start) (log_of job self.history) at
  stands_some on = by seen.stands where
    by : ((slot.at_ask ≡ false) × (slot.job.run.pending ≡ None))
        ⊎ ((slot.at_ask ≡ true)
        × ((at : AtAsk) × (stand_of slot ≡ Some at) × StandsAt (program_of self.image) (start_in job seen.row.start) (log_of job self.history) at))
        → (at : AtAsk) × (stand_at self.stands job ≡ Some at) × IsSeenAt slot.job.run at
        × StandsAt (program_of self.image) (start_in job seen.row.start) (log_of job self.history) at
    by (inl off) = absurd (let no : true ≡ false = sym on ∙ off.0 in cc)
    by (inr (also, (at, shows, so))) =
        let run = slot.job.run in
        let is : stand_by run.pending run.log run.at.state ≡ Some at = ap (λ b. if b then stand_by run.pending run.log run.at.state else waits_by run.pending run.at.state) (sym on) ∙ shows in
        (at, seen.shown ∙ shows, seen_by run.pending run.log run.at.state at is, so)

  pub stands_beside : slot.at_ask ≡ true → (at : AtAsk) (row : Row) → stand_at self.stands job ≡ Some at → row_at (state_of opening self.history).rows job ≡ Some row
      → StandsAt (program_of self.image) (start_in job row.start) (log_of job self.history) at
  stands_beside on at row is there =
      let so = stands_some on in
      let one : so.0 ≡ at = (let both : Some so.0 ≡ Some at = sym so.1 ∙ is in cc) in
      let its : seen.row ≡ row = (let both : Some seen.row ≡ Some row = sym seen.there ∙ there in cc) in
      let P : AtAsk → Type 0 = λ t. StandsAt (program_of self.image) (start_in job seen.row.start) (log_of job self.history) t in
      let Q : Row → Type 0 = λ r. StandsAt (program_of self.image) (start_in job r.start) (log_of job self.history) at in
      subst Q its (subst P one so.3)
