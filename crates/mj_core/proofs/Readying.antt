-- A job among all that is let go on, and isn't served.
use Rattle.std.specs.Prelude.{IsSome, slice_get, slice_set, Result, Ok, Err, IfOk}
use Rattle.std.proofs.Common.{◌≡◌, ℕ, suc, ◌<◌, List, Bool, true, false, Option, Some, None, refl, sym, ap, ◌∙◌, subst, inl, inr}
use Rattle.std.specs.declared.alloc.AllocError.{AllocError}
use Rattle.mj_ask.specs.declared.ask.Ask.{Ask}
use Rattle.mj_load.specs.Image.{Loaded, program_of}
use Rattle.mj_jobs.specs.Rows.{Row, row_at, IsLive}
use Rattle.mj_semantics.specs.State.{places}
use Rattle.mj_semantics.specs.Outcome.{Needs}
use Rattle.mj_semantics.specs.Job.{Start, next}
use Rattle.mj_jobvm.specs.Run.{Log, replies_of, GoesOn, HasEnded}
use Rattle.mj_jobvm.specs.Jobs.{Running, IsRunOf}
use Rattle.mj_jobvm.specs.Told.{AdvanceTells, IsWaitingAt, spent_after}
use Rattle.mj_jobvm.specs.declared.job.Turn.{Turn}
use Rattle.mj_jobvm.specs.declared.job.Turn.TheVariants as turns
use Rattle.mj_sys.specs.Shared.{Shared}
use Rattle.mj_sys.specs.History.{state_of, log_of}
use Rattle.mj_sys.specs.System.{Recorded, Claimed}
use Rattle.mj_core.specs.declared.happened.Happened.{Happened}
use Rattle.mj_core.specs.Woven.{woven}
use Rattle.mj_steps.specs.declared.step.Refusal.{Refusal}
use Rattle.mj_steps.specs.declared.step.Refusal.TheVariants as refusals
use Rattle.mj_core.specs.Runs.{start_in}
use Rattle.mj_core.specs.Shown.{AtAsk, Shown}
use Rattle.mj_core.specs.Gives.{Waits, stands_so, MayGoOn, Readies}
use Rattle.mj_core.specs.Asking.{IsAtAsk}
use Rattle.mj_core.specs.Answering.{Answering}
use Rattle.mj_core.specs.Ties.{Placed, IsPlaced, IsStanding, start_of, stand_by, stand_of}
use Rattle.mj_core.specs.Kept.{AreKept, logs_of, shown}
use Rattle.mj_core.proofs.Histories.{is_run, same_state}
use Rattle.mj_core.proofs.Keeping.{keeps_still}
use Rattle.mj_core.proofs.Owning.{own_still}
use Rattle.mj_core.proofs.Ended.{has_halted}
use Rattle.mj_core.proofs.Giving.{shown_still, may_go_shown, gives_ran, move}
use Rattle.mj_core.proofs.Stepping.{unasked, may_go, stands_nowhere}
use Rattle.mj_core.proofs.Views.{shown_run}

-- whether a job that was let go on stands at an ask then
abbrev pub is_at_ask : Result Turn AllocError → Bool
is_at_ask (Ok turns.Asks) = true
is_at_ask (Ok turns.Ran) = false
is_at_ask (Ok turns.Ended) = false
is_at_ask (Err e) = false

-- It waits then just where it asks: where memory was refused on its way, it doesn't.
abbrev pub WaitsThen : Result Turn AllocError → Option Ask → Type 0
WaitsThen (Ok turn) pending = IsWaitingAt turn pending
WaitsThen (Err e) pending = pending ≡ None

-- and how it went, as it is told
abbrev pub turn_told : Result Turn AllocError → Result Turn Refusal
turn_told (Ok turn) = Ok turn
turn_told (Err e) = Err refusals.Memory

module _ {A : Type 0} (ans : Answering A) (image : Loaded) (opening : Shared) (system : Recorded) (slots : List (Placed A)) (waiting : Option Claimed) (order : List Happened)
    (kept : AreKept ans image opening system slots waiting order) (k : ℕ) (slot : Placed A) (here : slice_get slots k ≡ Some slot) (job : Running)
    (run : (start : Start) → IsRunOf image start slot.job → IsRunOf image start job) (log : job.run.log ≡ slot.job.run.log) where
  -- the slot with its job behind some turns, at an ask or not
  abbrev pub slot_at : Bool → Placed A
  slot_at asks = record slot { job = job; at_ask = asks }

  -- it can go on
  pub is_placed : IsPlaced ans image opening system slot
  is_placed = (kept.tied k slot here).placed

  placed_on : (asks : Bool) → IsPlaced ans image opening system (slot_at asks)
  placed_on asks = record {
    own = own_still ans image slot.claim slot.job slot.answerer is_placed.own job slot.answerer (run (start_of slot) is_placed.own.run) log
        ((λ l of. of), (λ name has is. is));
    entered = is_placed.entered;
  }

  -- where it asks
  module _ (told : AdvanceTells (program_of image) (start_of slot) turns.Asks job.run) where
    abbrev at : AtAsk
    at = record { ask = told.0; locals = job.run.at.state.locals; places = places job.run.at.state; answered = false }

    shows : stand_of (slot_at true) ≡ Some at
    shows = ap (λ p. stand_by p job.run.log job.run.at.state) told.1

    standing : IsStanding image (slot_at true)
    standing = inr (refl, (at, shows, inl (told.2, refl)))

    keeps_asks : AreKept ans image opening system (slice_set slots k (slot_at true)) waiting order
    keeps_asks = keeps_still ans image opening system slots waiting order kept k slot (slot_at true) here refl (placed_on true) standing log (λ name has is. is)

    readies_asks : (over : List Bool) (n : ℕ) (few : k < n) (row : Row) → row_at (state_of opening (woven (logs_of slots) order)).rows (suc k) ≡ Some row
        → job.run.spent ≡ slot.job.run.spent
        → Readies opening (shown image slots order over n) (suc k) row (Ok turns.Asks) (shown image (slice_set slots k (slot_at true)) order over n)
    readies_asks over n few row is spent =
        let F : ℕ → Start → Log → Shared → Type 0 = λ j st l s. Waits (program_of image) st l at in
        let L : Log → Type 0 = λ l. Waits (program_of image) (start_of slot) l at in (
          at,
          move ans image opening system slots waiting order kept over n k few slot (slot_at true) here refl row is false None F (subst L log (told.2, refl)),
          shown_still ans image opening system slots waiting order kept over n k few slot (slot_at true) here refl row is false None log (λ name has h. h) (placed_on true) standing
              spent
              ∙ ap (λ d. stands_so (shown image slots order over n) (suc k) d) shows,
        )

  -- where it doesn't, and so doesn't wait
  keeps_goes : job.run.pending ≡ None → AreKept ans image opening system (slice_set slots k (slot_at false)) waiting order
  keeps_goes none =
      keeps_still ans image opening system slots waiting order kept k slot (slot_at false) here refl (placed_on false) (inl (refl, none)) log (λ name has is. is)

  -- what is told of it
  abbrev Told : Result Turn AllocError → Type 0
  Told went = IfOk went (λ turn. AdvanceTells (program_of image) (start_of slot) turn job.run)

  -- all is kept, however it went
  pub keeps_ready : (went : Result Turn AllocError) → Told went → WaitsThen went job.run.pending
      → AreKept ans image opening system (slice_set slots k (slot_at (is_at_ask went))) waiting order
  keeps_ready (Ok turns.Asks) told waits = keeps_asks told
  keeps_ready (Ok turns.Ran) told waits = keeps_goes waits
  keeps_ready (Ok turns.Ended) told waits = keeps_goes waits
  keeps_ready (Err e) told waits = keeps_goes waits

  module _ (over : List Bool) (n : ℕ) (few : k < n) (row : Row) (is : row_at (state_of opening (woven (logs_of slots) order)).rows (suc k) ≡ Some row)
      (live : IsLive (state_of opening system.history).rows (suc k)) where
    abbrev new : Shown
    new = shown image (slice_set slots k (slot_at false)) order over n

    -- it didn't wait
    goes : (IsSome slot.job.run.pending → ⊥) → MayGoOn (stand_of slot)
    goes nothing = may_go slot.job.run.pending slot.job.run.log slot.job.run.at.state slot.at_ask (unasked slot.job.run.pending nothing)

    -- it went on for all turns
    readies_ran : AdvanceTells (program_of image) (start_of slot) turns.Ran job.run → job.run.spent ≡ spent_after {E = AllocError} (Ok turns.Ran) 10000 slot.job.run.spent
        → MayGoOn (stand_of slot) → job.run.pending ≡ None → Readies opening (shown image slots order over n) (suc k) row (Ok turns.Ran) new
    readies_ran told spent may none =
        let L : Log → Type 0 = λ l. GoesOn (program_of image) (start_of slot) l job.run.spent in
        gives_ran ans image opening system slots waiting order kept over n k few slot (slot_at false) here refl row is false None log (λ name has h. h) (placed_on false)
        (inl (refl, none)) spent (subst L log told) (stands_nowhere job.run.pending job.run.at.state none) may

    -- one that goes on hasn't ended
    readies_ended : AdvanceTells (program_of image) (start_of slot) turns.Ended job.run
        → Readies opening (shown image slots order over n) (suc k) row (Ok turns.Ended) new
    readies_ended told =
        let F : ℕ → Start → Log → Shared → Type 0 = λ j st l s. HasEnded (program_of image) st l in
        let L : Log → Type 0 = λ l. HasEnded (program_of image) (start_of slot) l in
        let over_now = move ans image opening system slots waiting order kept over n k few slot (slot_at false) here refl row is false None F (subst L log told) in
        let run_is = is_run ans image opening system slots waiting order kept in
        let live_there : IsLive (state_of opening (woven (logs_of slots) order)).rows (suc k) =
        subst (λ (s : Shared). IsLive s.rows (suc k)) (sym (same_state ans image opening system slots waiting order kept)) live in
        absurd ((has_halted (program_of image) opening (woven (logs_of slots) order) run_is (suc k) row is over_now).1 live_there)

    -- memory was refused
    readies_none : job.run.spent ≡ slot.job.run.spent → MayGoOn (stand_of slot) → job.run.pending ≡ None
        → Readies opening (shown image slots order over n) (suc k) row (Err refusals.Memory) new
    readies_none spent may none = (
      refl,
      inr (
        may_go_shown n k slots slot few here may,
        shown_still ans image opening system slots waiting order kept over n k few slot (slot_at false) here refl row is false None log (λ name has h. h) (placed_on false)
            (inl (refl, none)) spent
            ∙ ap (λ d. stands_so (shown image slots order over n) (suc k) d) (stands_nowhere job.run.pending job.run.at.state none),
      ),
    )

    -- what it gives, however it went
    pub readies : (went : Result Turn AllocError) → Told went → job.run.spent ≡ spent_after went 10000 slot.job.run.spent
        → (IsSome slot.job.run.pending → went ≡ Ok turns.Asks) → WaitsThen went job.run.pending
        → Readies opening (shown image slots order over n) (suc k) row (turn_told went) (shown image (slice_set slots k (slot_at (is_at_ask went))) order over n)
    readies (Ok turns.Asks) told spent again waits = readies_asks told over n few row is spent
    readies (Ok turns.Ran) told spent again waits = readies_ran told spent (goes (λ some. (let no : Ok turns.Ran ≡ Ok turns.Asks = again some in cc))) waits
    readies (Ok turns.Ended) told spent again waits = readies_ended told
    readies (Err e) told spent again waits = readies_none spent (goes (λ some. (let no : Err e ≡ Ok turns.Asks = again some in cc))) waits

  -- where it asks, it stands at its ask
  pub at_ask : (went : Result Turn AllocError) → went ≡ Ok turns.Asks
      → ((start : Start) → IsRunOf image start slot.job → IfOk went (λ turn. AdvanceTells (program_of image) start turn job.run))
      → IsAtAsk image opening (woven (logs_of slots) order) (suc k) job
  at_ask went same told =
      let its = shown_run ans image opening system slots waiting order kept k slot here in
      let start = start_in (suc k) its.0.start in
      let logged : job.run.log ≡ log_of (suc k) (woven (logs_of slots) order) = log ∙ sym (kept.tied k slot here).logged in
      let T : Result Turn AllocError → Type 0 = λ w. IfOk w (λ turn. AdvanceTells (program_of image) start turn job.run) in
      let asks = subst T same (told start its.2) in
      let N : Log → Type 0 = λ l. (n : ℕ) × (next (program_of image) start n (replies_of l) ≡ Needs asks.0 job.run.at.state.locals (places job.run.at.state)) in
      record { row = its.0; there = its.1; run = run start its.2; log = logged; ask = asks.0; waits = asks.1; needs = subst N logged asks.2 }
