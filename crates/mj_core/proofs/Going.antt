-- A step of one job among all: what it gives, and what is kept behind it.
use Rattle.std.specs.Prelude.{slice_get, slice_set, Ok, Err, if◌then◌else◌}
use Rattle.std.proofs.Common.{◌≡◌, ℕ, suc, ◌<◌, ◌≤◌, List, [], ◌∷◌, ◌++◌, length, Bool, true, false, Option, Some, sym, ap, subst, arith, inr}
use Rattle.mj_ask.specs.declared.ask.Reply.{Reply}
use Rattle.mj_ask.specs.Fits.{is_shared}
use Rattle.mj_load.specs.Image.{Loaded, program_of}
use Rattle.mj_jobs.specs.Rows.{Row, row_at, IsLive}
use Rattle.mj_jobvm.specs.Run.{Log}
use Rattle.mj_sys.specs.Shared.{Shared}
use Rattle.mj_sys.specs.History.{History, state_of}
use Rattle.mj_sys.specs.System.{Recorded, Claimed, history_limit}
use Rattle.mj_core.specs.declared.happened.Happened.{Happened}
use Rattle.mj_core.specs.Happen.{shared_of}
use Rattle.mj_core.specs.Woven.{woven}
use Rattle.mj_core.specs.declared.seen.Seen.{Seen}
use Rattle.mj_core.specs.declared.seen.Seen.TheVariants as seen
use Rattle.mj_steps.specs.declared.step.Refusal.{Refusal}
use Rattle.mj_core.specs.declared.parts.Made.{Made}
use Rattle.mj_core.specs.declared.parts.Made.TheVariants as made
use Rattle.mj_core.specs.Shown.{with_over}
use Rattle.mj_core.specs.Gives.{IsStepRefused}
use Rattle.mj_core.specs.Gives as gives
use Rattle.mj_core.specs.Answering.{Answering, HasStill}
use Rattle.mj_core.specs.Ties.{Placed, IsPlaced, IsStanding, Steps, IsStill, start_of, stand_of}
use Rattle.mj_core.specs.Kept.{AreKept, logs_of, shown}
use Rattle.mj_core.proofs.Histories.{same_state, is_run}
use Rattle.mj_core.proofs.Ended.{has_halted}
use Rattle.mj_core.proofs.Keeping.{keeps_event, keeps_still}
use Rattle.mj_core.proofs.Views.{as_many}
use Rattle.mj_core.proofs.Giving.{shown_still, gives_event, gives_busy, gives_not_yet, gives_unfit, gives_ran, gives_ended, refuses}

-- what is seen of a step of one job, where so many events are written down
abbrev pub seen_of : ℕ → Made → Seen
seen_of n made.Event = seen.Event n
seen_of n (made.Busy holder held) = seen.Busy holder held
seen_of n made.NotYet = seen.NotYet
seen_of n made.Unfit = seen.Unfit
seen_of n made.Ran = seen.Ran
seen_of n made.Ended = seen.Ended

-- what is written down of it: an event is the next of its job's log
abbrev pub order_on : List Happened → ℕ → Log → Made → List Happened
order_on order k log made.Event = order ++ record { job = suc k; at = length log } ∷ []
order_on order k log _ = order

-- whose end was seen then
abbrev pub over_on : List Bool → ℕ → Made → List Bool
over_on over k made.Ended = with_over over (suc k)
over_on over k _ = over

-- the shared state serves no more than happens
few_shared : (history : History) → length (shared_of history) ≤ length history
few_shared [] = omega arith
few_shared (e ∷ history) = by (is_shared e.ask) (few_shared history) where
  by : (b : Bool) → length (shared_of history) ≤ length history → length (if b then e ∷ shared_of history else shared_of history) ≤ suc (length history)
  by true few = omega (arith, few)
  by false few = omega (arith, few)

-- where all events have room, those that the shared state serves have it
pub room_left : {A : Type 0} (ans : Answering A) (image : Loaded) (opening : Shared) (system : Recorded) (slots : List (Placed A)) (waiting : Option Claimed) (order : List Happened)
    → AreKept ans image opening system slots waiting order → length order < image.bounds.events → length system.history < history_limit
room_left ans image opening system slots waiting order kept room =
    let few = few_shared (woven (logs_of slots) order) in
    let many = as_many (logs_of slots) order kept.there in
    let same = ap length kept.history in
    let most = kept.most in
    omega (arith, few, many, same, room, most)

module _ {A : Type 0} (ans : Answering A) (image : Loaded) (opening : Shared) (system : Recorded) (slots : List (Placed A)) (waiting : Option Claimed) (order : List Happened)
    (kept : AreKept ans image opening system slots waiting order) (k : ℕ) (slot slot' : Placed A) (here : slice_get slots k ≡ Some slot)
    (numbered : slot'.claim.job ≡ slot.claim.job) (late : Bool) (given : Option Reply) (system' : Recorded) (placed : IsPlaced ans image opening system' slot')
    (standing : IsStanding image slot') (room : length order < image.bounds.events) where
  abbrev slots' : List (Placed A)
  slots' = slice_set slots k slot'

  placed_as : system' ≡ system → IsPlaced ans image opening system slot'
  placed_as same = let P : Recorded → Type 0 = λ s. IsPlaced ans image opening s slot' in subst P same placed

  kept_as : (same : system' ≡ system) → slot'.job.run.log ≡ slot.job.run.log → HasStill ans slot.answerer slot'.answerer
      → AreKept ans image opening system' slots' waiting order
  kept_as same log stays =
      let P : Recorded → Type 0 = λ s. AreKept ans image opening s slots' waiting order in
      subst P (sym same) (keeps_still ans image opening system slots waiting order kept k slot slot' here numbered (placed_as same) standing log stays)

  -- all is kept
  pub keeps_step : (m : Made) → Steps ans (program_of image) opening late given system slot m system' slot'
      → AreKept ans image opening system' slots' waiting (order_on order k slot.job.run.log m)
  keeps_step made.Event t = keeps_event ans image opening system slots waiting order kept k slot slot' here numbered system' t.0.ask t.1 late room placed standing t.6 t.8 t.4 t.5 t.9
  keeps_step (made.Busy holder held) t = kept_as t.5 t.6.0 t.6.2
  keeps_step made.NotYet t = kept_as t.4 t.5.0 t.5.2
  keeps_step made.Unfit t = kept_as t.4 t.5.0 t.5.2
  keeps_step made.Ran t = kept_as t.2 t.3 t.4
  keeps_step made.Ended t = kept_as t.1 t.2.0 t.2.2

  pub keeps_refused : (system' ≡ system) × IsStill ans slot slot' → AreKept ans image opening system' slots' waiting order
  keeps_refused t = kept_as t.0 t.1.0 t.1.2

  module _ (over : List Bool) (n : ℕ) (few : k < n) (row : Row) (is : row_at (state_of opening (woven (logs_of slots) order)).rows (suc k) ≡ Some row) where
    -- this is what it gives, of a job that goes on
    abbrev Goal : Made → Type 0
    Goal m =
        gives.JobStepGives ans.means opening (shown image slots order over n) (suc k) row late given (Ok (seen_of (length order) m))
        (shown image slots' (order_on order k slot.job.run.log m) (over_on over k m) n)

    pub makes_step : IsLive (state_of opening system.history).rows (suc k) → (m : Made) → Steps ans (program_of image) opening late given system slot m system' slot' → Goal m
    makes_step live m t = by m t where
      live_there : IsLive (state_of opening (woven (logs_of slots) order)).rows (suc k)
      live_there = subst (λ (s : Shared). IsLive s.rows (suc k)) (sym (same_state ans image opening system slots waiting order kept)) live

      by : (m : Made) → Steps ans (program_of image) opening late given system slot m system' slot' → Goal m
      by made.Event t = (
        live_there,
        gives_event ans image opening system slots waiting order kept over n k few slot slot' here numbered row is late given t.0 t.1 system' t.6 t.7 (keeps_step made.Event t) t.2 t.3 t.5 t.10 t.11,
      )
      by (made.Busy holder held) t = (
        live_there,
        gives_busy ans image opening system slots waiting order kept over n k few slot slot' here numbered row is late given t.6.0 t.6.2 t.6.1 system' (placed_as t.5) standing holder held t,
      )
      by made.NotYet t = (
        live_there,
        gives_not_yet ans image opening system slots waiting order kept over n k few slot slot' here numbered row is late given t.5.0 t.5.2 t.5.1 system' (placed_as t.4) standing t,
      )
      by made.Unfit t = (
        live_there,
        gives_unfit ans image opening system slots waiting order kept over n k few slot slot' here numbered row is late given t.5.0 t.5.2 t.5.1 system' (placed_as t.4) standing t,
      )
      by made.Ran t = (
        live_there,
        gives_ran ans image opening system slots waiting order kept over n k few slot slot' here numbered row is late given t.3 t.4 (placed_as t.2) standing t.0 t.1 t.5 t.6,
      )
      by made.Ended t =
          let over_now = gives_ended ans image opening system slots waiting order kept over n k few slot slot' here numbered row is late given system' t in
          absurd ((has_halted (program_of image) opening (woven (logs_of slots) order) (is_run ans image opening system slots waiting order kept) (suc k) row is over_now).1 live_there)

    -- and where it isn't made, nothing changes but how the job stands
    pub makes_none : (why : Refusal) → IsStepRefused (program_of image) (start_of slot) slot.job.run.log (stand_of slot) late why (stand_of slot')
        → (system' ≡ system) × IsStill ans slot slot'
        → gives.JobStepGives ans.means opening (shown image slots order over n) (suc k) row late given (Err why) (shown image slots' order over n)
    makes_none why refused t = inr (
      stand_of slot',
      refuses ans image opening system slots waiting order kept over n k few slot slot' here numbered row is late given why refused,
      shown_still ans image opening system slots waiting order kept over n k few slot slot' here numbered row is late given t.1.0 t.1.2 (placed_as t.0) standing t.1.1,
    )
