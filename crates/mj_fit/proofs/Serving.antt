-- What a job asks next in a run can be served.
use Rattle.std.proofs.Common.{◌≡◌, ℕ, ◌+◌, List, [], ◌∷◌, Bool, true, false, Option, Some, None, refl, ap, sym, ◌∙◌, subst, append-nil, inl, inr}
use Rattle.std.specs.Prelude.{IfSome, Result, Ok, Err, ◌⊎◌, ◌<◌, ◌≤◌, length, if◌then◌else◌}
use Rattle.std.specs.Str.{bytes_eq}
use Rattle.mj_ask.specs.declared.ask.Ask.{Ask}
use Rattle.mj_ask.specs.declared.ask.Ask.TheVariants as asks
use Rattle.mj_ask.specs.declared.ask.SharedAsk.TheVariants as shared_asks
use Rattle.mj_ask.specs.declared.ask.DeviceAsk.{DeviceAsk}
use Rattle.mj_ask.specs.declared.ask.DeviceAsk.TheVariants as device_asks
use Rattle.mj_dev.specs.Shelves.{Shelf}
use Rattle.mj_dev.specs.Talk.{beginning}
use Rattle.mj_sessions.specs.Asked.{Answering}
use Rattle.mj_sessions.specs.Events.{Log, device_of}
use Rattle.mj_sessions.specs.Follow.{ends_on}
use Rattle.mj_semantics.specs.State.{principal, places}
use Rattle.mj_semantics.specs.Job.{Start, next}
use Rattle.mj_jobvm.specs.Run.{replies_of}
use Rattle.mj_jobvm.specs.Jobs.{Running, IsRunOf}
use Rattle.mj_jobvm.specs.Fit.{Links, first_links, is_end, links_after, IsFit}
use Rattle.mj_jobvm.proofs.Fitted.{asks_what_fits}
use Rattle.mj_jobvm.proofs.Names.{same_name, itself, never}
use Rattle.mj_load.specs.Image.{Loaded, program_of}
use Rattle.mj_sys.specs.Devices.{device_at, holder_of}
use Rattle.mj_sys.specs.Shared.{Shared}
use Rattle.mj_sys.specs.Opening.{free_devices, opening_of, device_of as device_in}
use Rattle.mj_sys.specs.History.{state_of, log_of}
use Rattle.mj_steps.specs.declared.step.Refusal.{Refusal}
use Rattle.mj_steps.specs.declared.step.Refusal.TheVariants as refusals
use Rattle.mj_core.specs.declared.seen.Seen.{Seen}
use Rattle.mj_core.specs.declared.seen.Seen.TheVariants as seen
use Rattle.mj_core.specs.Gives.{is_late, Makes, JobStepGives}
use Rattle.mj_core.specs.Runs.{start_in}
use Rattle.mj_core.specs.Serving.{serving}
use Rattle.mj_core.specs.Shown.{was_over}
use Rattle.mj_core.specs.Having.{HasFailed, opens_on, has_session, IsUnfitBy}
use Rattle.mj_fit.specs.Laws.{OpensFree, AllAreServed, NoStepIsUnfit, has_by, AllAreServedBy, NoTalkIsUnfit}
use Rattle.mj_fit.proofs.Having.{IsHeld, has_is}
use Rattle.mj_fit.proofs.Failing.{is_open_by}

-- a call that fits is one to a session that is open
module _ (s : Shared) (log : Log) (has : List ℕ → Bool) (all : (name : List ℕ) → has name ≡ (links_after first_links log name).session) where
  abbrev links : Links
  links = links_after first_links log

  -- it doesn't end the session
  on_end : (device : List ℕ) (x : DeviceAsk) → ends_on device (asks.Device device x) ≡ false → is_end x ≡ false
  on_end device device_asks.End on = never (bytes_eq device device) (itself device) on
  on_end device _ on = refl

  not_failed : (device : List ℕ) → (links device).failed ≡ false → HasFailed log device → ⊥
  not_failed device well failed = failed.2 (is_open_by device log first_links beginning failed.0 (λ q. refl) failed.1 well)

  by_device : (device : List ℕ) (x : DeviceAsk) → IsFit links (asks.Device device x)
      → (has device ≡ false) ⊎ ((ends_on device (asks.Device device x) ≡ false) × HasFailed log device) → ⊥
  by_device device x fit (inl none) = never (has device) (all device ∙ fit.0) none
  by_device device x fit (inr failed) = not_failed device (fit.1 (on_end device x failed.0)) failed.1

  by_open : (a : Ask) (name : List ℕ) → IsFit links a → opens_on name a ≡ true → has name ≡ true → ⊥
  by_open (asks.Shared (shared_asks.Open device timeout)) name fit opens is =
      never (has name) is (all name ∙ subst (λ n. (links n).session ≡ false) (same_name device name opens) fit.1)
  by_open _ name fit opens is = never false opens refl

  called : (a : Ask) → IsFit links a → (name : List ℕ) → device_of a ≡ Some name → (has name ≡ false) ⊎ ((ends_on name a ≡ false) × HasFailed log name) → ⊥
  called (asks.Device device x) fit name is why =
      let same : device ≡ name = cc in
      by_device device x fit (subst (λ n. (has n ≡ false) ⊎ ((ends_on n (asks.Device device x) ≡ false) × HasFailed log n)) (sym same) why)
  called (asks.Rest time) fit name is why = let no : None ≡ Some name = is in cc
  called (asks.Shared a) fit name is why = let no : None ≡ Some name = is in cc

  -- so it isn't unfit
  pub can_be_served : (a : Ask) → IsFit links a → IsUnfitBy s log has a → ⊥
  can_be_served a fit (inl why) = called a fit why.0 why.1 why.2
  can_be_served a fit (inr why) = by_open a why.0 fit why.1 why.3

-- in a run
pub all_are_served : AllAreServed
all_are_served program opening history job row a free run there makes =
    let log : Log = log_of job history in
    let it = asks_what_fits program (start_in job row.start) log (run.traces job row there) in
    let held : IsHeld job opening first_links = λ x held. (let no : None ≡ Some job = sym (free x) ∙ held in absurd cc) in
    can_be_served (state_of opening history) log (λ name. has_session opening job name history)
    (λ name. has_is name job history opening first_links (bytes_eq principal name) run.happen held it.0 refl)
    a (it.1 a makes.0 makes.1 makes.2 makes.3)

-- so no step is unfit
pub no_step_is_unfit : NoStepIsUnfit
no_step_is_unfit opening old new step free run (inl none) = let no : ◌≡◌ {A = Result Seen Refusal} (Ok seen.Unfit) (Err refusals.NoJob) = none.1 in cc
no_step_is_unfit opening old new step free run (inr found) = by found.2
  where
    by : ((was_over old.over step.job ≡ true) × ◌≡◌ {A = Result Seen Refusal} (Ok seen.Unfit) (Err refusals.Ended) × (new ≡ old))
        ⊎ ((was_over old.over step.job ≡ false) × (old.image.bounds.events ≤ length old.history) × ◌≡◌ {A = Result Seen Refusal} (Ok seen.Unfit) (Err refusals.Full) × (new ≡ old))
        ⊎ ((was_over old.over step.job ≡ false) × (length old.history < old.image.bounds.events)
        × JobStepGives serving opening old step.job found.0 (is_late step.way) None (Ok seen.Unfit) new) → ⊥
    by (inl over) = let no : ◌≡◌ {A = Result Seen Refusal} (Ok seen.Unfit) (Err refusals.Ended) = over.1 in cc
    by (inr (inl full)) = let no : ◌≡◌ {A = Result Seen Refusal} (Ok seen.Unfit) (Err refusals.Full) = full.2 in cc
    by (inr (inr made)) =
        let one = made.2.1 in
        all_are_served (program_of old.image) opening old.history step.job found.0 one.0.ask free run found.1 (one.1.0.0, one.0.locals, one.0.places, one.1.0.1) one.3.0

-- Jobs alone.

pub all_are_served_by : AllAreServedBy
all_are_served_by program start log s a trace makes =
    let it = asks_what_fits program start log trace in
    can_be_served s log (has_by log) (λ name. refl) a (it.1 a makes.0 makes.1 makes.2 makes.3)

at_some : (o : Option Ask) (a : Ask) (P : Ask → Type 0) → o ≡ Some a → IfSome o P → P a
at_some o a P is holds = let Q : Option Ask → Type 0 = λ p. IfSome p P in subst Q is holds

-- a job that waits asks what its run needs next
makes_pending : (image : Loaded) (start : Start) (job : Running) (a : Ask) → IsRunOf image start job → job.run.pending ≡ Some a
    → Makes (program_of image) start job.run.log a
makes_pending image start job a (turns, run) is =
    let n = run.before + turns + 1 in
    let asks = at_some job.run.pending a _ is run.asks in (
      n,
      job.run.at.state.locals,
      places job.run.at.state,
      ap (λ replies. next (program_of image) start n replies) (sym (append-nil (replies_of job.run.log))) ∙ sym (run.rest 1 []) ∙ asks.1 0,
    )

pub no_talk_is_unfit : (tells : Answering) → NoTalkIsUnfit tells
no_talk_is_unfit tells image claim job job' x x' a late given own pending all talks =
    let start = start_in claim.job claim.start in
    let s = opening_of [] [] [] in
    all_are_served_by (program_of image) start job.run.log s a own.run.1.trace
    (makes_pending image start job a own.run pending)
    (talks.0 s (has_by job.run.log) own.told all).0

-- Openings.

free_of : (principals : ℕ) (shelves : List Shelf) (name : List ℕ) → holder_of (free_devices principals shelves) name ≡ None
free_of principals [] name = refl
free_of principals (shelf ∷ shelves) name = by (bytes_eq shelf.name name) (free_of principals shelves name)
  where
    by : (b : Bool) → holder_of (free_devices principals shelves) name ≡ None
        → ◌≡◌ {A = Option ℕ} (elim (if b then Some (device_in principals shelf None) else device_at (free_devices principals shelves) name) [ None ↦ None | Some d ↦ d.holder ]) None
    by true rest = refl
    by false rest = rest

pub opens_free : OpensFree
opens_free globals shelves starts name = free_of _ shelves name
