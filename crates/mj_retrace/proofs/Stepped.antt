-- What a step over a record, and making a job ready, leave of the routines and the history; and the event that is made again.
use Rattle.std.specs.Prelude.{Result, Ok, Err, IfOk, IfSome, slice_get}
use Rattle.std.proofs.Common.{◌≡◌, ℕ, zero, suc, ◌+◌, ◌*◌, ◌<◌, ◌≤◌, ◌⊎◌, inl, inr, List, [], ◌∷◌, ◌++◌, length, Bool, true, Option, Some, None, refl, sym, ap, ◌∙◌, subst, arith}
use Rattle.std.proofs.lemmas.List.{get_or-set_same, length-set}
use Rattle.std.proofs.lemmas.Option.{slice_get_within, same_Some}
use Rattle.mj_ask.specs.declared.ask.Ask.{Ask}
use Rattle.mj_ask.specs.declared.ask.Reply.{Reply}
use Rattle.mj_ask.specs.Fits.{is_shared}
use Rattle.mj_load.specs.Image.{Loaded, program_of}
use Rattle.mj_semantics.specs.Outcome as outcomes
use Rattle.mj_jobs.specs.Rows.{Row, row_at, rows_limit}
use Rattle.mj_jobvm.specs.Run.{GoesOn}
use Rattle.mj_jobvm.specs.declared.job.Turn.{Turn}
use Rattle.mj_jobvm.specs.declared.job.Turn.TheVariants as turned
use Rattle.mj_steps.specs.declared.step.Refusal.{Refusal}
use Rattle.mj_steps.specs.declared.step.Step.{Step}
use Rattle.mj_sys.specs.declared.event.Event.{Event}
use Rattle.mj_sys.specs.Shared.{Shared, served}
use Rattle.mj_sys.specs.History.{History, state_of, log_of}
use Rattle.mj_core.specs.declared.seen.Seen.{Seen}
use Rattle.mj_core.specs.declared.seen.Seen.TheVariants as seen
use Rattle.mj_core.specs.Runs.{IsRun, start_in}
use Rattle.mj_core.specs.Shown.{AtAsk, Shown, stand_at, with_stand, spent_by, with_spent}
use Rattle.mj_core.specs.Gives.{stands_so, answered, is_late, MayGoOn, JobStepGives, GivesReady, Readies}
use Rattle.mj_core.specs.Recorded.{repeating, RecordStepGives}
use Rattle.mj_retrace.proofs.Listed.{get_last}
use Rattle.mj_replica.specs.Replays.{turns_limit, IsUnmade}
use Rattle.mj_retrace.specs.Made.{event_by, IsThere, MakesAgain}

abbrev image_of : Shown → Loaded
image_of s = s.image

abbrev history_of : Shown → History
history_of s = s.history

abbrev stands_in : Shown → List (Option AtAsk)
stands_in s = s.stands

-- the routines and the history stay
abbrev pub IsSame : Shown → Shown → Type 0
IsSame old new = (new.image ≡ old.image) × (new.history ≡ old.history)

same : (old new : Shown) → new ≡ old → IsSame old new
same old new is = (ap image_of is, ap history_of is)

-- ---- a job that is let go on

module _ (opening : Shared) (old new : Shown) (job : ℕ) (row : Row) where
  readied : (answer : Result Turn Refusal) → Readies opening old job row answer new → IsSame old new
  readied (Ok turned.Asks) r = (ap image_of r.2, ap history_of r.2)
  readied (Ok turned.Ran) r = (ap image_of r.4, ap history_of r.4)
  readied (Ok turned.Ended) r = same old new r.1
  readied (Err why) r = by r.1 where
    by : (new ≡ old) ⊎ (MayGoOn (stand_at old.stands job) × (new ≡ stands_so old job None)) → IsSame old new
    by (inl is) = same old new is
    by (inr is) = (ap image_of is.1, ap history_of is.1)

-- where a job is made ready, nothing is asked or told
pub ready_keeps : (opening : Shared) (old new : Shown) (job : ℕ) (answer : Result Turn Refusal) → GivesReady opening old job answer new → IsSame old new
ready_keeps opening old new job answer (inl none) = same old new none.2
ready_keeps opening old new job answer (inr (row, is, inl over)) = same old new over.2
ready_keeps opening old new job answer (inr (row, is, inr goes)) = readied opening old new job row answer goes.1

-- ---- a step

ok_not_err : {A B : Type 0} (a : A) (b : B) → Ok a ≡ Err b → ⊥
ok_not_err a b e = cc

module _ (opening : Shared) (old new : Shown) (job : ℕ) (row : Row) (late : Bool) (given : Option Reply) where
  made_image : (answer : Result Seen Refusal) → JobStepGives repeating opening old job row late given answer new → new.image ≡ old.image
  made_image (Ok seen.Ended) made = ap image_of made.1
  made_image (Ok (seen.Event place)) made = ap image_of made.1.5.1.1
  made_image (Ok (seen.Busy holder held)) made = ap image_of made.1.5
  made_image (Ok seen.NotYet) made = absurd made.1.3
  made_image (Ok seen.Unfit) made = ap image_of made.1.3.2
  made_image (Ok seen.Ran) made = ap image_of made.1.4
  made_image (Err why) (inl made) = ap image_of made.1
  made_image (Err why) (inr made) = ap image_of made.2

-- a step leaves the routines
pub step_image : (opening : Shared) (old new : Shown) (step : Step) (given : Option Reply) (answer : Result Seen Refusal)
    → RecordStepGives opening old step given answer new → new.image ≡ old.image
step_image opening old new step given answer (inl none) = ap image_of none.2
step_image opening old new step given answer (inr (row, is, inl over)) = ap image_of over.2
step_image opening old new step given answer (inr (row, is, inr (inl full))) = ap image_of full.3
step_image opening old new step given answer (inr (row, is, inr (inr goes))) = made_image opening old new step.job row (is_late step.way) given answer goes.2

-- as many jobs are shown as before
stands_long : (stands : List (Option AtAsk)) (job : ℕ) (stand : Option AtAsk) → length (with_stand stands job stand) ≡ length stands
stands_long stands zero stand = refl
stands_long stands (suc k) stand = length-set stands k stand

-- as many turns as were counted
spent_long : (spent : List ℕ) (job turns : ℕ) → length (with_spent spent job turns) ≡ length spent
spent_long spent zero turns = refl
spent_long spent (suc k) turns = length-set spent k turns

spent_so : (spent : List ℕ) (job turns : ℕ) → 1 ≤ job → job ≤ length spent → spent_by (with_spent spent job turns) job ≡ turns
spent_so spent zero turns one few = absurd (omega (arith, one))
spent_so spent (suc k) turns one few = get_or-set_same spent k turns 0 (omega (arith, few))

numbered : (rows : List Row) (job : ℕ) (row : Row) → row_at rows job ≡ Some row → (1 ≤ job) × (job ≤ length rows)
numbered rows zero row is = cc
numbered rows (suc k) row is = (omega arith, omega (arith, slice_get_within rows k row is))

-- The job goes on, for so many turns as were counted, and as many as so many steps have. Nothing is asked or told, and nobody's end is seen.
pub record IsGoing (opening : Shared) (old : Shown) (job steps : ℕ) (core : Shown) : Type 0 where
  pub image : core.image ≡ old.image
  pub history : core.history ≡ old.history
  pub over : core.over ≡ old.over
  pub stands : length core.stands ≡ rows_limit
  pub counts : length core.spent ≡ rows_limit
  pub turns : steps * 10000 ≤ spent_by core.spent job
  pub long : (steps ≡ 0)
      ⊎ ((row : Row) × (row_at (state_of opening old.history).rows job ≡ Some row)
      × GoesOn (program_of old.image) (start_in job row.start) (log_of job old.history) (spent_by core.spent job))

-- where it hasn't gone on yet
pub going_none : (opening : Shared) (core : Shown) (job : ℕ) → length core.stands ≡ rows_limit → length core.spent ≡ rows_limit → IsGoing opening core job 0 core
going_none opening core job stands counts =
    record { image = refl; history = refl; over = refl; stands = stands; counts = counts; turns = omega arith; long = inl refl }

-- one step more in which it asks nothing
pub going_on : (opening : Shared) (first old new : Shown) (step : Step) (given : Option Reply) (steps : ℕ) → length (state_of opening first.history).rows ≤ rows_limit
    → steps < 1000000 → IsGoing opening first step.job steps old → RecordStepGives opening old step given (Ok seen.Ran) new
    → IsGoing opening first step.job (steps + 1) new
going_on opening first old new step given steps few more going (inl none) = absurd (ok_not_err _ _ none.1)
going_on opening first old new step given steps few more going (inr (row, is, inl over)) = absurd (ok_not_err _ _ over.1)
going_on opening first old new step given steps few more going (inr (row, is, inr (inl full))) = absurd (ok_not_err _ _ full.2)
going_on opening first old new step given steps few more going (inr (row, is, inr (inr goes))) =
    let ran = goes.2.1 in
    let left = ran.4 in
    let there : row_at (state_of opening first.history).rows step.job ≡ Some row = ap (λ (h : History). row_at (state_of opening h).rows step.job) (sym going.history) ∙ is in
    let numbers = numbered (state_of opening first.history).rows step.job row there in
    let counts = going.counts in
    let spent : spent_by new.spent step.job ≡ ran.0 =
    ap (λ (s : Shown). spent_by s.spent step.job) left ∙ spent_so old.spent step.job ran.0 numbers.0 (omega (arith, numbers.1, few, counts)) in
    let P : Loaded → History → ℕ → Type 0 = λ i h n. GoesOn (program_of i) (start_in step.job row.start) (log_of step.job h) n in
    record {
      image = ap image_of left ∙ going.image;
      history = ap history_of left ∙ going.history;
      over = ap (λ (s : Shown). s.over) left ∙ going.over;
      stands = ap (λ (s : Shown). length s.stands) left ∙ stands_long old.stands step.job None ∙ going.stands;
      counts = ap (λ (s : Shown). length s.spent) left ∙ spent_long old.spent step.job ran.0 ∙ counts;
      turns = (let before = going.turns in let so = ran.1 in omega (arith, spent, so, before, more));
      long = inr (
        row,
        there,
        subst (λ n. P first.image first.history n) (sym spent)
            (subst (λ h. P first.image h ran.0) going.history (subst (λ i. P i old.history ran.0) going.image ran.2)),
      );
    }

-- one that goes on for so long isn't seen to make its event
pub going_long : (opening : Shared) (first core : Shown) (job steps : ℕ) (ask : Ask) (reply : Reply) → 1000000 ≤ steps → IsGoing opening first job steps core
    → IsUnmade (program_of first.image) opening first.history (event_by job ask reply)
going_long opening first core job steps ask reply past going = by going.long
  where
    by : (steps ≡ 0)
        ⊎ ((row : Row) × (row_at (state_of opening first.history).rows job ≡ Some row)
        × GoesOn (program_of first.image) (start_in job row.start) (log_of job first.history) (spent_by core.spent job))
        → IsUnmade (program_of first.image) opening first.history (event_by job ask reply)
    by (inl none) = absurd (omega (arith, none, past))
    by (inr long) =
        inr (
          long.0,
          long.1,
          (
            spent_by core.spent job,
            (let turns = going.turns in let so : turns_limit ≤ spent_by core.spent job = omega (arith, turns, past) in so),
            long.2,
          ),
        )

-- ---- the event

-- where a job stands is where it was put
stood : (stands : List (Option AtAsk)) (job : ℕ) (stand : Option AtAsk) → 1 ≤ job → job ≤ length stands → stand_at (with_stand stands job stand) job ≡ stand
stood stands zero stand one few = absurd (omega (arith, one))
stood stands (suc k) stand one few = get_or-set_same stands k stand None (omega (arith, few))

module _ (opening : Shared) (old new : Shown) (job : ℕ) (ask : Ask) (reply : Reply) (place : ℕ)
    (stands : length old.stands ≡ rows_limit) (few : length (state_of opening old.history).rows ≤ rows_limit)
    (same : IsThere new.history place ask reply) where
  by_row : (row : Row) (late : Bool) (given : Option Reply) → row_at (state_of opening old.history).rows job ≡ Some row
      → JobStepGives repeating opening old job row late given (Ok (seen.Event place)) new → MakesAgain old.image opening old.history job ask reply new
  by_row row late given there made =
      let goes = made.1 in
      let at = goes.0 in
      let e : Event = event_by job at.ask goes.1 in
      let f : Event = event_by same.0 ask reply in
      let is = goes.5.1.1 in
      let grown : new.history ≡ old.history ++ e ∷ [] = ap history_of is in
      let event : e ≡ f =
      same_Some e f (sym (get_last old.history e) ∙ ap (slice_get (old.history ++ e ∷ [])) (sym goes.5.1.0) ∙ ap (λ (h : History). slice_get h place) (sym grown) ∙ same.1) in
      let its_ask : at.ask ≡ ask = ap (λ (x : Event). x.ask) event in
      let its_reply : goes.1 ≡ reply = ap (λ (x : Event). x.reply) event in
      let numbers = numbered (state_of opening old.history).rows job row there in
      let waits = goes.2.0 in
      record {
        more = grown ∙ (λ i. old.history ++ event_by job (its_ask i) (its_reply i) ∷ []);
        at = answered at;
        stands = ap (λ (s : Shown). stand_at s.stands job) is ∙ stood old.stands job (Some (answered at)) numbers.0 (omega (arith, numbers.1, few, stands));
        asks = record {
          row = row;
          there = there;
          turns = waits.0;
          locals = at.locals;
          places = at.places;
          asks = waits.1 ∙ ap (λ (a : Ask). outcomes.Needs a at.locals at.places) its_ask;
          line = refl;
        };
        told = λ shared. (
          late,
          (let P : Ask → Reply → Type 0 = λ a r. is_shared a ≡ true → served (state_of opening old.history) job a late ≡ Some (r, state_of opening new.history) in
              subst (λ a. P a reply) its_ask (subst (λ r. P at.ask r) its_reply goes.4.shared) shared),
        );
      }

-- the job made the event that its step gave behind others, if it is this; and nobody's end was seen by it
pub event_made : (opening : Shared) (first old new : Shown) (step : Step) (given : Option Reply) (ask : Ask) (reply : Reply) (place steps : ℕ)
    → length (state_of opening first.history).rows ≤ rows_limit → IsGoing opening first step.job steps old → IsThere new.history place ask reply
    → RecordStepGives opening old step given (Ok (seen.Event place)) new → MakesAgain first.image opening first.history step.job ask reply new × (new.over ≡ first.over)
event_made opening first old new step given ask reply place steps few going is (inl none) = absurd (ok_not_err _ _ none.1)
event_made opening first old new step given ask reply place steps few going is (inr (row, there, inl over)) = absurd (ok_not_err _ _ over.1)
event_made opening first old new step given ask reply place steps few going is (inr (row, there, inr (inl full))) = absurd (ok_not_err _ _ full.2)
event_made opening first old new step given ask reply place steps few going is (inr (row, there, inr (inr goes))) =
    let few_old : length (state_of opening old.history).rows ≤ rows_limit =
    subst (λ (h : History). length (state_of opening h).rows ≤ rows_limit) (sym going.history) few in
    let P : Loaded → History → Type 0 = λ i h. MakesAgain i opening h step.job ask reply new in (
      subst (λ i. P i first.history) going.image (subst (λ h. P old.image h) going.history
          (by_row opening old new step.job ask reply place going.stands few_old is row (is_late step.way) given there goes.2)),
      ap (λ (s : Shown). s.over) goes.2.1.5.1.1 ∙ going.over,
    )

-- behind an event that was made the history is a run with that, if it stands there
pub event_run : (opening : Shared) (first old new : Shown) (step : Step) (given : Option Reply) (ask : Ask) (place steps : ℕ)
    → length (state_of opening first.history).rows ≤ rows_limit → IsGoing opening first step.job steps old → RecordStepGives opening old step given (Ok (seen.Event place)) new
    → IsRun (program_of new.image) opening new.history → {E : Type 0} → (told : Result (Option Reply) E)
    → IfOk told (λ t. IfSome t (λ reply. IsThere new.history place ask reply))
    → IfOk told (λ t. IfSome t (λ reply. IsRun (program_of first.image) opening (first.history ++ event_by step.job ask reply ∷ [])))
event_run opening first old new step given ask place steps few going gives run (Err e) there = tt
event_run opening first old new step given ask place steps few going gives run (Ok None) there = tt
event_run opening first old new step given ask place steps few going gives run (Ok (Some reply)) there =
    let made = (event_made opening first old new step given ask reply place steps few going there gives).0 in
    let P : Loaded → History → Type 0 = λ i h. IsRun (program_of i) opening h in
    let same : new.image ≡ first.image = step_image opening old new step given (Ok (seen.Event place)) gives ∙ going.image in
    subst (λ i. P i (first.history ++ event_by step.job ask reply ∷ [])) same (subst (λ h. P new.image h) made.more run)
