-- What a step of a core gives, by which of its tests is the first that fails.
use Rattle.std.specs.Prelude.{IsSome, Result, Ok, Err, [], replicate}
use Rattle.std.specs.List.{slice_index_or}
use Rattle.std.proofs.Common.{◌≡◌, ℕ, suc, ◌<◌, ◌≤◌, List, length, Bool, true, false, Option, Some, None, refl, sym, ap, ◌∙◌, subst, inl, inr, arith}
use Rattle.std.proofs.lemmas.Option.{slice_get_within}
use denote.Enum.Bare.{sameb}
use Rattle.mj_ask.specs.declared.ask.Reply.{Reply}
use Rattle.mj_ask.specs.declared.bounds.Bounds.{Bounds}
use Rattle.mj_load.specs.Image.{Loaded}
use Rattle.mj_jobs.specs.Rows.{Row, row_at, IsLive, rows_limit}
use Rattle.mj_jobvm.specs.declared.job.Turn.{Turn}
use Rattle.mj_jobvm.specs.declared.job.Turn.TheVariants as turns
use Rattle.mj_sys.specs.Shared.{Shared}
use Rattle.mj_sys.specs.History.{History, state_of}
use Rattle.mj_sys.specs.System.{Recorded, Claimed}
use Rattle.mj_core.specs.declared.happened.Happened.{Happened}
use Rattle.mj_core.specs.Woven.{woven}
use Rattle.mj_core.specs.declared.seen.Seen.{Seen}
use Rattle.mj_core.specs.declared.seen.Seen.TheVariants as seen
use Rattle.mj_steps.specs.declared.step.Refusal.{Refusal}
use Rattle.mj_steps.specs.declared.step.Refusal.TheVariants as refusals
use Rattle.mj_steps.specs.declared.step.Step.{Step}
use Rattle.mj_steps.specs.declared.step.Way.{Way}
use Rattle.mj_steps.specs.declared.step.Way.TheVariants as ways
use Rattle.mj_steps.specs.contracts.step.Way as way
use Rattle.mj_core.specs.Shown.{AtAsk, Shown, was_over, with_over}
use Rattle.mj_core.specs.Gives.{is_late, JobStepGives, StepGivesBy, Readies, GivesReady}
use Rattle.mj_core.specs.Answering.{Answering}
use Rattle.mj_core.specs.Meaning.{Means}
use Rattle.mj_core.specs.Ties.{Placed}
use Rattle.mj_core.specs.Kept.{AreKept, logs_of, turns_of, stands_of, shown}
use Rattle.mj_core.proofs.Histories.{same_state}
use Rattle.mj_core.proofs.Views.{as_many}

-- which row is there
pub row_there : (o : Option Row) → IsSome o → (row : Row) × (o ≡ Some row)
row_there (Some row) some = (row, refl)
row_there None some = absurd (let no : false ≡ true = some in cc)

-- the same is seen where slots came that had no event and counted no turns
pub shown_same : {A : Type 0} (image : Loaded) (slots slots' : List (Placed A)) (order : List Happened) (over : List Bool) (n : ℕ)
    → woven (logs_of slots') order ≡ woven (logs_of slots) order → turns_of n slots' ≡ turns_of n slots → stands_of n slots' ≡ stands_of n slots
    → shown image slots' order over n ≡ shown image slots order over n
shown_same image slots slots' order over n history turns stands =
    let h = woven (logs_of slots) order in
    ap (λ (h' : History). let s : Shown = record { image = image; history = h'; over = over; spent = turns_of n slots'; stands = stands_of n slots' } in s) history
    ∙ ap (λ (t : List ℕ). let s : Shown = record { image = image; history = h; over = over; spent = t; stands = stands_of n slots' } in s) turns
    ∙ ap (λ (d : List (Option AtAsk)). let s : Shown = record { image = image; history = h; over = over; spent = turns_of n slots; stands = d } in s) stands

-- what is seen of a core of which nothing was asked
pub shown_first : {A : Type 0} (image : Loaded) (slots : List (Placed A)) (order : List Happened) (over : List Bool) → slots ≡ [] → order ≡ [] → over ≡ replicate rows_limit false
    → shown image slots order over rows_limit ≡ record { image = image; history = []; over = replicate rows_limit false; spent = replicate rows_limit 0; stands = replicate rows_limit None }
shown_first {A = A} image slots order over none_there none_yet nobody =
    ap (λ (s : List (Placed A)). shown image s order over rows_limit) none_there
    ∙ ap (λ o. shown {A = A} image [] o over rows_limit) none_yet
    ∙ ap (λ v. shown {A = A} image [] [] v rows_limit) nobody

module _ (means : Means) (given : Option Reply) (opening : Shared) (old : Shown) (step : Step) where
  pub no_job : row_at (state_of opening old.history).rows step.job ≡ None → StepGivesBy means opening old step given (Err refusals.NoJob) old
  no_job none = inl (none, refl, refl)

  module _ (at : ℕ) (is : step.job ≡ suc at) (some : IsSome (row_at (state_of opening old.history).rows step.job)) where
    there : (row : Row) × (row_at (state_of opening old.history).rows step.job ≡ Some row)
    there = row_there (row_at (state_of opening old.history).rows step.job) some

    pub was_seen : slice_index_or old.over at false ≡ true → StepGivesBy means opening old step given (Err refusals.Ended) old
    was_seen over = inr (there.0, there.1, inl (ap (was_over old.over) is ∙ over, refl, refl))

    module _ (goes : slice_index_or old.over at false ≡ false) where
      pub is_full : old.image.bounds.events ≤ length old.history → StepGivesBy means opening old step given (Err refusals.Full) old
      is_full long = inr (there.0, there.1, inr (inl (ap (was_over old.over) is ∙ goes, long, refl, refl)))

      module _ (room : length old.history < old.image.bounds.events) where
        pub is_made : (answer : Result Seen Refusal) (new : Shown)
            → ((row : Row) → row_at (state_of opening old.history).rows (suc at) ≡ Some row → JobStepGives means opening old (suc at) row (is_late step.way) given answer new)
            → StepGivesBy means opening old step given answer new
        is_made answer new made = inr (
          there.0,
          there.1,
          inr (inr (
            ap (was_over old.over) is ∙ goes,
            room,
            subst (λ j. JobStepGives means opening old j there.0 (is_late step.way) given answer new) (sym is)
                (made there.0 (ap (λ j. row_at (state_of opening old.history).rows j) (sym is) ∙ there.1)),
          )),
        )

        pub is_done : (IsLive (state_of opening old.history).rows step.job → ⊥) → StepGivesBy means opening old step given (Ok seen.Ended) (record old { over = with_over old.over (suc at) })
        is_done done =
            is_made (Ok seen.Ended) (record old { over = with_over old.over (suc at) })
            (λ row here. ((λ live. done (subst (λ j. IsLive (state_of opening old.history).rows j) (sym is) live)), refl))

        pub is_short : StepGivesBy means opening old step given (Err refusals.Memory) old
        is_short = is_made (Err refusals.Memory) old (λ row here. inl (refl, refl))

-- ---- and what it gives to make a job ready

module _ (opening : Shared) (old : Shown) (job : ℕ) where
  pub ready_no_job : row_at (state_of opening old.history).rows job ≡ None → GivesReady opening old job (Err refusals.NoJob) old
  ready_no_job none = inl (none, refl, refl)

  module _ (at : ℕ) (is : job ≡ suc at) (some : IsSome (row_at (state_of opening old.history).rows job)) where
    ready_there : (row : Row) × (row_at (state_of opening old.history).rows job ≡ Some row)
    ready_there = row_there (row_at (state_of opening old.history).rows job) some

    pub ready_seen : slice_index_or old.over at false ≡ true → GivesReady opening old job (Err refusals.Ended) old
    ready_seen over = inr (ready_there.0, ready_there.1, inl (ap (was_over old.over) is ∙ over, refl, refl))

    module _ (goes : slice_index_or old.over at false ≡ false) where
      pub ready_made : (answer : Result Turn Refusal) (new : Shown)
          → ((row : Row) → row_at (state_of opening old.history).rows (suc at) ≡ Some row → Readies opening old (suc at) row answer new)
          → GivesReady opening old job answer new
      ready_made answer new made = inr (
        ready_there.0,
        ready_there.1,
        inr (
          ap (was_over old.over) is ∙ goes,
          subst (λ j. Readies opening old j ready_there.0 answer new) (sym is)
              (made ready_there.0 (ap (λ j. row_at (state_of opening old.history).rows j) (sym is) ∙ ready_there.1)),
        ),
      )

      pub ready_done : (IsLive (state_of opening old.history).rows job → ⊥) → GivesReady opening old job (Ok turns.Ended) old
      ready_done done =
          ready_made (Ok turns.Ended) old
          (λ row here. ((λ live. done (subst (λ j. IsLive (state_of opening old.history).rows j) (sym is) live)), refl))

      pub ready_short : GivesReady opening old job (Err refusals.Memory) old
      ready_short = ready_made (Err refusals.Memory) old (λ row here. (refl, inl refl))

-- ---- what is known of a core by what is seen of it

module _ {A : Type 0} (ans : Answering A) (image : Loaded) (opening : Shared) (system : Recorded) (slots : List (Placed A)) (waiting : Option Claimed) (order : List Happened)
    (kept : AreKept ans image opening system slots waiting order) (over : List Bool) (n : ℕ) (self : Shown) (view : shown image slots order over n ≡ self) where
  -- its history leaves what the system's leaves
  same_shared : state_of opening system.history ≡ state_of opening self.history
  same_shared = sym (same_state ans image opening system slots waiting order kept) ∙ ap (λ (s : Shown). state_of opening s.history) view

  pub row_within : (job at : ℕ) → job ≡ suc at → IsSome (row_at (state_of opening self.history).rows job) → at < length (state_of opening system.history).rows
  row_within job at is some =
      let there = row_there (row_at (state_of opening self.history).rows job) some in
      slice_get_within (state_of opening system.history).rows at there.0
      (ap (λ (s : Shared). row_at s.rows (suc at)) same_shared ∙ ap (λ j. row_at (state_of opening self.history).rows j) (sym is) ∙ there.1)

  pub seen_as : (at : ℕ) (b : Bool) → slice_index_or over at false ≡ b → slice_index_or self.over at false ≡ b
  seen_as at b is = ap (λ (s : Shown). slice_index_or s.over at false) (sym view) ∙ is

  many : length self.history ≡ length order
  many = ap (λ (s : Shown). length s.history) (sym view) ∙ as_many (logs_of slots) order kept.there

  bounds_as : image.bounds ≡ self.image.bounds
  bounds_as = ap (λ (s : Shown). s.image.bounds) view

  pub room_as : length order < image.bounds.events → length self.history < self.image.bounds.events
  room_as room = subst (λ (b : Bounds). length self.history < b.events) bounds_as (let e = many in let less : length self.history < image.bounds.events = omega (arith, e, room) in less)

  pub full_as : image.bounds.events ≤ length order → self.image.bounds.events ≤ length self.history
  full_as full = subst (λ (b : Bounds). b.events ≤ length self.history) bounds_as (let e = many in let more : image.bounds.events ≤ length self.history = omega (arith, e, full) in more)

  pub done_as : (job : ℕ) → (IsLive (state_of opening system.history).rows job → ⊥) → IsLive (state_of opening self.history).rows job → ⊥
  done_as job done live = done (subst (λ (s : Shared). IsLive s.rows job) (sym same_shared) live)

-- what it makes of a job that has its slot now is what it makes of it
pub made_of : {A : Type 0} (means : Means) (given : Option Reply) (image : Loaded) (opening : Shared) (slots slots' : List (Placed A)) (order : List Happened) (over over' : List Bool) (n : ℕ)
    (self : Shown) (at : ℕ) (late late' : Bool) (answer : Result Seen Refusal) (new : Shown) → shown image slots order over n ≡ self → slots' ≡ slots → over' ≡ over → late' ≡ late
    → ((row : Row) → row_at (state_of opening (woven (logs_of slots') order)).rows (suc at) ≡ Some row
    → JobStepGives means opening (shown image slots' order over' n) (suc at) row late' given answer new)
    → (row : Row) → row_at (state_of opening self.history).rows (suc at) ≡ Some row → JobStepGives means opening self (suc at) row late given answer new
made_of {A = A} means given image opening slots slots' order over over' n self at late late' answer new admitted same_slots same_over same_late made =
    let P : List (Placed A) → List Bool → Bool → Type 0 = λ s o l. (row : Row) → row_at (state_of opening (woven (logs_of s) order)).rows (suc at) ≡ Some row
    → JobStepGives means opening (shown image s order o n) (suc at) row l given answer new in
    let Q : Shown → Type 0 = λ s. (row : Row) → row_at (state_of opening s.history).rows (suc at) ≡ Some row → JobStepGives means opening s (suc at) row late given answer new in
    subst Q admitted (subst (λ l. P slots over l) same_late (subst (λ o. P slots o late') same_over (subst (λ s. P s over' late') same_slots made)))

-- whether a step is late, as it is tested
pub late_is : (w : Way) → sameb way.the_type w ways.Late ≡ is_late w
late_is ways.Go = refl
late_is ways.Late = refl
