-- A step leaves the image as it is, and the record grows at its end.
use Rattle.std.specs.Prelude.{None, Result, Ok, Err, take, ◌⊎◌}
use Rattle.std.proofs.Common.{◌≡◌, ℕ, ◌<◌, ◌≤◌, [], ◌∷◌, ◌++◌, length, Bool, sym, ap, ◌∙◌, subst, inl, inr, append-nil, length-append, arith}
use Rattle.std.proofs.lemmas.List.{take-append-le}
use Rattle.mj_load.specs.Image.{Loaded}
use Rattle.mj_jobs.specs.Rows.{Row}
use Rattle.mj_jobvm.specs.declared.job.Turn.{Turn}
use Rattle.mj_jobvm.specs.declared.job.Turn.TheVariants as turns
use Rattle.mj_sys.specs.declared.event.Event.{Event}
use Rattle.mj_sys.specs.Shared.{Shared}
use Rattle.mj_sys.specs.History.{History}
use Rattle.mj_sys.specs.System.{history_limit}
use Rattle.mj_core.specs.declared.seen.Seen.{Seen}
use Rattle.mj_core.specs.declared.seen.Seen.TheVariants as seen
use Rattle.mj_steps.specs.declared.step.Refusal.{Refusal}
use Rattle.mj_steps.specs.declared.step.Step.{Step}
use Rattle.mj_core.specs.Shown.{Shown, stand_at}
use Rattle.mj_core.specs.Gives.{is_late, stands_so, MayGoOn, CoreStepGives, Made, GivesReady, Readies}
use Rattle.mj_replica.specs.Playing.{AreStaged}
use Rattle.mj_replica.specs.Replicas.{Replayed, IsReplica}

-- the image stays, and there are as many events or more, but no more than there may be
pub record Grows (old new : Shown) : Type 0 where
  pub image : new.image ≡ old.image
  pub more : History
  pub history : new.history ≡ old.history ++ more
  pub within : old.image.bounds.events ≤ history_limit → length old.history ≤ history_limit → length new.history ≤ history_limit

-- nothing happened
still : (old new : Shown) → new.image ≡ old.image → new.history ≡ old.history → Grows old new
still old new image history = record {
  image = image;
  more = [];
  history = history ∙ sym (append-nil old.history);
  within = λ most le. subst (λ h. length h ≤ history_limit) (sym history) le;
}

abbrev image_of : Shown → Loaded
image_of s = s.image

abbrev history_of : Shown → History
history_of s = s.history

same : (old new : Shown) → new ≡ old → Grows old new
same old new is = still old new (ap image_of is) (ap history_of is)

-- one event happened
one : (old new : Shown) (e : Event) → new.image ≡ old.image → new.history ≡ old.history ++ e ∷ [] → length old.history < old.image.bounds.events → Grows old new
one old new e image history room = record {
  image = image;
  more = e ∷ [];
  history = history;
  within = λ most le. (let long = length-append old.history (e ∷ []) in let same_long = ap (λ (h : History). length h) history in omega (arith, long, same_long, room, most));
}

module _ (opening : Shared) (old new : Shown) (room : length old.history < old.image.bounds.events) (job : ℕ) (row : Row) (late : Bool) where
  made_grows : (answer : Result Seen Refusal) → Made opening old job row late answer new → Grows old new
  made_grows (Ok seen.Ended) made = still old new (ap image_of made.1) (ap history_of made.1)
  made_grows (Ok (seen.Event at)) made =
      let goes = made.1 in
      let is = goes.5.1 in
      one old new (record { job = job; ask = goes.0.ask; reply = goes.1 }) (ap image_of is) (ap history_of is) room
  made_grows (Ok (seen.Busy holder held)) made = still old new (ap image_of made.1.5) (ap history_of made.1.5)
  made_grows (Ok seen.NotYet) made = still old new (ap image_of made.1.3.3) (ap history_of made.1.3.3)
  made_grows (Ok seen.Unfit) made = still old new (ap image_of made.1.3.1) (ap history_of made.1.3.1)
  made_grows (Ok seen.Ran) made = still old new (ap image_of made.1.4) (ap history_of made.1.4)
  made_grows (Err why) (inl made) = same old new made.1
  made_grows (Err why) (inr made) = still old new (ap image_of made.2) (ap history_of made.2)

-- by a step
pub step_grows : (opening : Shared) (old new : Shown) (step : Step) (answer : Result Seen Refusal) → CoreStepGives opening old step answer new → Grows old new
step_grows opening old new step answer (inl none) = same old new none.2
step_grows opening old new step answer (inr (row, is, inl over)) = same old new over.2
step_grows opening old new step answer (inr (row, is, inr (inl full))) = same old new full.3
step_grows opening old new step answer (inr (row, is, inr (inr goes))) = made_grows opening old new goes.1 step.job row (is_late step.way) answer goes.2

module _ (opening : Shared) (old new : Shown) (job : ℕ) (row : Row) where
  ready_same : (answer : Result Turn Refusal) → Readies opening old job row answer new → (new.image ≡ old.image) × (new.history ≡ old.history)
  ready_same (Ok turns.Asks) r = (ap image_of r.2, ap history_of r.2)
  ready_same (Ok turns.Ran) r = (ap image_of r.4, ap history_of r.4)
  ready_same (Ok turns.Ended) r = (ap image_of r.1, ap history_of r.1)
  ready_same (Err why) r = by r.1 where
    by : (new ≡ old) ⊎ (MayGoOn (stand_at old.stands job) × (new ≡ stands_so old job None)) → (new.image ≡ old.image) × (new.history ≡ old.history)
    by (inl is) = (ap image_of is, ap history_of is)
    by (inr is) = (ap image_of is.1, ap history_of is.1)

-- where a job is made ready, nothing happens
pub ready_keeps : (opening : Shared) (old new : Shown) (job : ℕ) (answer : Result Turn Refusal) → GivesReady opening old job answer new
    → (new.image ≡ old.image) × (new.history ≡ old.history)
ready_keeps opening old new job answer (inl none) = (ap image_of none.2, ap history_of none.2)
ready_keeps opening old new job answer (inr (row, is, inl over)) = (ap image_of over.2, ap history_of over.2)
ready_keeps opening old new job answer (inr (row, is, inr goes)) = ready_same opening old new job row answer goes.1

pub ready_grows : (opening : Shared) (old new : Shown) (job : ℕ) (answer : Result Turn Refusal) → GivesReady opening old job answer new → Grows old new
ready_grows opening old new job answer gives = let kept = ready_keeps opening old new job answer gives in still old new kept.0 kept.1

-- what was played of a record stays played
pub replica_on : (opening : Shared) (old new : Shown) (replica : Replayed) → Grows old new → IsReplica old.image opening old.history replica → IsReplica new.image opening new.history replica
replica_on opening old new replica grows is = record {
  within = (let long = length-append old.history grows.more in let same_long = ap (λ (h : History). length h) grows.history in let le = is.within in omega (arith, long, same_long, le));
  staged =
      (let fronts : take replica.made new.history ≡ take replica.made old.history =
      ap (λ (h : History). take replica.made h) grows.history ∙ take-append-le replica.made old.history grows.more is.within in
      let P : History → Type 0 = λ h. AreStaged old.image opening h replica.system replica.jobs in
      let Q : Loaded → Type 0 = λ i. AreStaged i opening (take replica.made new.history) replica.system replica.jobs in
      subst Q (sym grows.image) (subst P (sym fronts) is.staged));
}

-- and the place stays within it
pub place_on : (old new : Shown) (place : ℕ) → Grows old new → place ≤ length old.history → place ≤ length new.history
place_on old new place grows le =
    let long = length-append old.history grows.more in
    let same_long = ap (λ (h : History). length h) grows.history in
    omega (arith, long, same_long, le)
