-- What it gives to make a job ready that has a row, and whose end wasn't seen.
use Rattle.std.specs.Prelude.{IsSome, Result, Ok, Err}
use Rattle.std.specs.List.{slice_index_or}
use Rattle.std.proofs.Common.{◌≡◌, ℕ, suc, ◌<◌, List, length, get_or, Bool, false, Option, Some, sym, ap, ◌∙◌, subst, arith}
use Rattle.std.proofs.lemmas.List.{get_or_default}
use Rattle.mj_load.specs.Image.{Loaded}
use Rattle.mj_jobs.specs.Rows.{Row, row_at, IsLive, rows_limit}
use Rattle.mj_jobvm.specs.Jobs.{Running}
use Rattle.mj_jobvm.specs.declared.job.Turn.{Turn}
use Rattle.mj_jobvm.specs.declared.job.Turn.TheVariants as turns
use Rattle.mj_sys.specs.Shared.{Shared}
use Rattle.mj_sys.specs.History.{state_of}
use Rattle.mj_sys.specs.System.{Recorded, Claimed}
use Rattle.mj_core.specs.declared.happened.Happened.{Happened}
use Rattle.mj_core.specs.Woven.{woven}
use Rattle.mj_steps.specs.declared.step.Refusal.{Refusal}
use Rattle.mj_steps.specs.declared.step.Refusal.TheVariants as refusals
use Rattle.mj_core.specs.Shown.{Shown}
use Rattle.mj_core.specs.declared.seen.Ready.{Ready}
use Rattle.mj_core.specs.declared.seen.Ready.TheVariants as readies
use Rattle.mj_core.specs.Gives.{Readies, GivesReady}
use Rattle.mj_core.specs.Asking.{IfAsks, IsAtAsk}
use Rattle.mj_core.specs.Answering.{Answering}
use Rattle.mj_core.specs.Ties.{Placed}
use Rattle.mj_core.specs.Kept.{AreKept, logs_of, turns_of, stands_of, shown}
use Rattle.mj_core.proofs.Answering.{shown_same, ready_made, ready_done, ready_short, seen_as, done_as}

-- what stands in a list for each job, by a test of it
pub stands_at : (over : List Bool) (at : ℕ) (b test : Bool) → length over ≡ rows_limit → at < rows_limit → b ≡ get_or over at b → b ≡ test → slice_index_or over at false ≡ test
stands_at over at b test long few value is = get_or_default over at false b (omega (arith, long, few)) ∙ sym value ∙ is

module _ {A : Type 0} (ans : Answering A) (image : Loaded) (opening : Shared) (system : Recorded) (slots : List (Placed A)) (waiting : Option Claimed) (order : List Happened)
    (kept : AreKept ans image opening system slots waiting order) (over : List Bool) (self : Shown) (view : shown image slots order over rows_limit ≡ self)
    (job at : ℕ) (is : job ≡ suc at) (some : IsSome (row_at (state_of opening self.history).rows job))
    (b : Bool) (long : length over ≡ rows_limit) (few : at < rows_limit) (value : b ≡ get_or over at b) (goes : b ≡ false) where
  goes_on : slice_index_or self.over at false ≡ false
  goes_on = seen_as ans image opening system slots waiting order kept over rows_limit self view at false (stands_at over at b false long few value goes)

  pub readied_done : (IsLive (state_of opening system.history).rows job → ⊥) → GivesReady opening self job (Ok turns.Ended) self
  readied_done done = ready_done opening self job at is some goes_on (done_as ans image opening system slots waiting order kept over rows_limit self view job done)

  -- slots came, in which nothing was asked yet
  module _ (slots1 : List (Placed A)) (order1 : List Happened) (same : order1 ≡ order) (history : woven (logs_of slots1) order1 ≡ woven (logs_of slots) order1)
      (counts : (n : ℕ) → turns_of n slots1 ≡ turns_of n slots) (stands : (n : ℕ) → stands_of n slots1 ≡ stands_of n slots) where
    seen_still : shown image slots1 order over rows_limit ≡ self
    seen_still =
        let P : List Happened → Type 0 = λ o. woven (logs_of slots1) o ≡ woven (logs_of slots) o in
        shown_same image slots slots1 order over rows_limit (subst P same history) (counts rows_limit) (stands rows_limit) ∙ view

    pub readied_short : GivesReady opening self job (Err refusals.Memory) (shown image slots1 order over rows_limit)
    readied_short =
        let P : Shown → Type 0 = λ s. GivesReady opening self job (Err refusals.Memory) s in
        subst P (sym seen_still) (ready_short opening self job at is some goes_on)

    pub readied : (lent new : List (Placed A)) (order2 : List Happened) → lent ≡ slots1 → order2 ≡ order → (answer : Result Turn Refusal)
        → ((ends : List Bool) (row : Row) → row_at (state_of opening (woven (logs_of lent) order2)).rows (suc at) ≡ Some row
        → Readies opening (shown image lent order2 ends rows_limit) (suc at) row answer (shown image new order2 ends rows_limit))
        → GivesReady opening self job answer (shown image new order over rows_limit)
    readied lent new order2 as_lent again answer gives = ready_made opening self job at is some goes_on answer (shown image new order over rows_limit) (λ row here.
        let e : shown image lent order2 over rows_limit ≡ self =
        ap (λ s. shown image s order2 over rows_limit) as_lent ∙ ap (λ o. shown image slots1 o over rows_limit) again ∙ seen_still in
        let there = ap (λ (s : Shown). row_at (state_of opening s.history).rows (suc at)) e ∙ here in
        let P : Shown → Type 0 = λ s. Readies opening s (suc at) row answer (shown image new order2 over rows_limit) in
        let Q : List Happened → Type 0 = λ o. Readies opening self (suc at) row answer (shown image new o over rows_limit) in
        subst Q again (subst P e (gives over row there)))

    -- where it asks then, it stands at its ask
    pub readied_at : (lent : List (Placed A)) (order2 : List Happened) → lent ≡ slots1 → order2 ≡ order → (found : Running)
        → IsAtAsk image opening (woven (logs_of lent) order2) (suc at) found → IsAtAsk self.image opening self.history job found
    readied_at lent order2 as_lent again found asks =
        let e : shown image lent order2 over rows_limit ≡ self =
        ap (λ s. shown image s order2 over rows_limit) as_lent ∙ ap (λ o. shown image slots1 o over rows_limit) again ∙ seen_still in
        let P : Shown → Type 0 = λ s. IsAtAsk s.image opening s.history (suc at) found in
        let Q : ℕ → Type 0 = λ j. IsAtAsk self.image opening self.history j found in
        subst Q (sym is) (subst P e asks)

-- what holds of all that is seen where a job asks
pub asks_as : {R : Type 0} (A B : R → Type 0) (ready : Result (Ready R) Refusal) → ((seen : R) → A seen → B seen) → IfAsks ready A → IfAsks ready B
asks_as A B (Ok (readies.Asks seen)) each a = each seen a
asks_as A B (Ok readies.Ran) each a = a
asks_as A B (Ok readies.Ended) each a = a
asks_as A B (Err why) each a = a
