-- What a core keeps.
use Rattle.std.specs.Prelude.{◌≡◌, ℕ, zero, suc, ◌≤◌, List, [], ◌∷◌, length, map, slice_get, Bool, true, false, Option, Some, None, ◌⊎◌}
use Rattle.std.specs.Borrow.{Bor}
use Rattle.mj_text.specs.declared.limit.Limit.TheVariants.{V2}
use Rattle.mj_ask.specs.declared.ask.Ask.{Ask}
use Rattle.mj_ask.specs.declared.ask.Reply.{Reply}
use Rattle.mj_load.specs.Image.{Loaded, program_of}
use Rattle.mj_jobs.specs.Rows.{Row, row_at}
use Rattle.mj_jobvm.specs.Jobs.{IsRunOf}
use Rattle.mj_sys.specs.declared.event.Event.{Event}
use Rattle.mj_sys.specs.Shared.{Shared}
use Rattle.mj_sys.specs.History.{History, state_of, log_of}
use Rattle.mj_sys.specs.System.{Recorded, Claimed, history_limit}
use Rattle.mj_core.specs.declared.happened.Happened.{Happened}
use Rattle.mj_core.specs.Happen.{AllHappen, shared_of}
use Rattle.mj_core.specs.Woven.{Logs, woven, AreThere, AreInOrder}
use Rattle.mj_core.specs.Having.{has_session}
use Rattle.mj_core.specs.Shown.{AtAsk, Shown, stand_at}
use Rattle.mj_core.specs.Runs.{start_in}
use Rattle.mj_core.specs.Gives.{StandsAt}
use Rattle.mj_core.specs.Answering.{Answering, HasAll}
use Rattle.mj_core.specs.Ties.{Placed, IsPlaced, IsStanding, stand_of}

-- the logs of jobs
abbrev pub logs_of : {A : Type 0} → List (Placed A) → Logs
logs_of slots = map (λ s. s.job.run.log) slots

-- for so many jobs what there is of each by its slot, or this where it has none
abbrev pub each_of : {A X : Type 0} → X → (Placed A → X) → ℕ → List (Placed A) → List X
each_of none one zero slots = []
each_of {A = A} none one (suc n) [] = none ∷ each_of {A = A} none one n []
each_of none one (suc n) (slot ∷ slots) = one slot ∷ each_of none one n slots

-- for so many jobs the turns that each was let go on for since its last reply: one without a slot for none
abbrev pub turns_of : {A : Type 0} → ℕ → List (Placed A) → List ℕ
turns_of n slots = each_of 0 (λ s. s.job.run.spent) n slots

-- for so many jobs how each stands, where it stands at an ask: one without a slot doesn't
abbrev pub stands_of : {A : Type 0} → ℕ → List (Placed A) → List (Option AtAsk)
stands_of n slots = each_of None (λ s. stand_of s) n slots

-- what is seen of a core, for so many jobs
abbrev pub shown : {A : Type 0} → Loaded → List (Placed A) → List Happened → List Bool → ℕ → Shown
shown image slots order over n =
    record { image = image; history = woven (logs_of slots) order; over = over; spent = turns_of n slots; stands = stands_of n slots }

-- the claim of a row that waits for its slot
abbrev pub claim_of : {C S : Type 0} → Option (C × S) → Option C
claim_of None = None
claim_of (Some waiting) = Some waiting.0

-- as many rows were claimed as have a slot; and one more, where it waits for it, by a claim that has had no event
abbrev pub IsClaimed : Shared → Recorded → ℕ → Option Claimed → Type 0
IsClaimed opening system n None = system.claimed ≡ n
IsClaimed opening system n (Some claim) =
    (system.claimed ≡ suc n) × (claim.job ≡ suc n) × (claim.events ≡ 0)
    × ((row : Row) × (row_at (state_of opening system.history).rows claim.job ≡ Some row) × (row.start ≡ claim.start))

-- a job has just the sessions that its history says
abbrev pub AreHeld : {A : Type 0} → Answering A → Shared → ℕ → History → A → Type 0
AreHeld by opening job history x = HasAll by x (λ name. has_session opening job name history)

-- a slot is that of this job, tied to the system, which stands as its run does; and the history of all jobs has its log, and says which sessions it has
pub record IsSlotOf {A : Type 0} (by : Answering A) (image : Loaded) (opening : Shared) (system : Recorded) (history : History) (job : ℕ) (slot : Placed A) : Type 0 where
  pub numbered : slot.claim.job ≡ job
  pub placed : IsPlaced by image opening system slot
  pub stands : IsStanding image slot
  pub logged : log_of job history ≡ slot.job.run.log
  pub held : AreHeld by opening job history slot.answerer

-- The history that is woven of the jobs' logs, each in its order, has what the system served; each slot is that of the job at its place; each event of it
-- came where it could; the jobs of the first rows, which were claimed, have a slot, but for one that may wait for it; there are no more events than the
-- image's bounds say; and its limit is the greater one.
pub record AreKept {A : Type 0} (by : Answering A) (image : Loaded) (opening : Shared) (system : Recorded) (slots : List (Placed A)) (waiting : Option Claimed)
    (order : List Happened) : Type 0 where
  pub history : shared_of (woven (logs_of slots) order) ≡ system.history
  pub tied : (k : ℕ) (slot : Placed A) → slice_get slots k ≡ Some slot → IsSlotOf by image opening system (woven (logs_of slots) order) (suc k) slot
  pub happen : AllHappen opening (woven (logs_of slots) order)
  pub there : AreThere (logs_of slots) order
  pub ordered : AreInOrder [] order (woven (logs_of slots) order)
  pub claimed : IsClaimed opening system (length slots) waiting
  pub within : length order ≤ image.bounds.events
  pub most : image.bounds.events ≤ history_limit
  pub long : image.bounds.limit ≡ V2

-- The slot is that of this job, as what is seen of a core says: its job runs from its row's start, has the log that the history has of it, and stands at
-- the ask that is shown, as its run does, or at none, and doesn't wait.
pub record IsSeenSlot {A : Type 0} (opening : Shared) (seen : Shown) (job : ℕ) (slot : Placed A) : Type 0 where
  pub row : Row
  pub there : row_at (state_of opening seen.history).rows job ≡ Some row
  pub run : IsRunOf seen.image (start_in job row.start) slot.job
  pub log : slot.job.run.log ≡ log_of job seen.history
  pub shown : stand_at seen.stands job ≡ stand_of slot
  pub stands : ((slot.at_ask ≡ false) × (slot.job.run.pending ≡ None))
      ⊎ ((slot.at_ask ≡ true)
      × ((at : AtAsk) × (stand_of slot ≡ Some at) × StandsAt (program_of seen.image) (start_in job row.start) (log_of job seen.history) at))

-- an event as it is shown: its job, what that asked, and what it was told
abbrev pub shown_event : Option (ℕ × Bor Ask × Bor Reply) → Option Event
shown_event None = None
shown_event (Some e) = Some (record { job = e.0; ask = e.1.now; reply = e.2.now })
