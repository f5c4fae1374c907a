-- Jobs that wait when they are stepped.
use Rattle.std.specs.Prelude.{ℤ, if◌then◌else◌, not, ◌&&◌}
use Rattle.std.specs.Option.{is_some}
use Rattle.std.proofs.Common.{◌≡◌, ℕ, zero, suc, ◌+◌, ◌≤◌, Bool, true, false, leb, List, [], ◌∷◌, ◌++◌, length, Option, Some, None, Ok, Err, inl, inr, refl, sym, ap, ◌∙◌, subst, arith}
use Rattle.std.proofs.lemmas.Bool.{leb-true, leb-false}
use Rattle.std.proofs.lemmas.List.{get_or-set_same, length-append}
use Rattle.std.proofs.lemmas.Option.{slice_get_within}
use Rattle.mj_ask.specs.declared.ask.Ask.{Ask}
use Rattle.mj_ask.specs.declared.ask.Ask.TheVariants as asks
use Rattle.mj_ask.specs.Fits.{is_shared, timeout_of}
use Rattle.mj_jobs.specs.Rows.{Row, row_at, IsLive}
use Rattle.mj_load.specs.Image.{Loaded, program_of}
use Rattle.mj_sessions.specs.Asked.{Answering}
use Rattle.mj_sys.specs.declared.event.Event.{Event}
use Rattle.mj_sys.specs.Shared.{Shared}
use Rattle.mj_sys.specs.History.{History, state_of}
use Rattle.mj_sys.specs.declared.served.Held.{Held}
use Rattle.mj_sys.specs.System.{KeepsBusy}
use Rattle.mj_steps.specs.declared.step.Step.{Step}
use Rattle.mj_steps.specs.declared.step.Way.TheVariants as ways
use Rattle.mj_steps.specs.declared.round.Standing.{Standing}
use Rattle.mj_steps.specs.declared.round.Standing.TheVariants as standings
use Rattle.mj_core.specs.Gives.{CoreStepGives}
use Rattle.mj_core.specs.Shown.{AtAsk, Shown, stand_at, with_stand}
use Rattle.mj_core.specs.declared.seen.Seen.{Seen}
use Rattle.mj_core.specs.declared.seen.Seen.TheVariants as seen
use Rattle.mj_run.specs.Stepping.{StepsAs, StandsSo, waits_at}
use Rattle.mj_explore.specs.Found.{IsHeld}

-- a step in time of a job
abbrev pub go : ℕ → Step
go job = record { job = job; way = ways.Go }

-- where a job stands is where it was put
stood : (stands : List (Option AtAsk)) (job : ℕ) (stand : Option AtAsk) → 1 ≤ job → job ≤ length stands → stand_at (with_stand stands job stand) job ≡ stand
stood stands zero stand one few = absurd (omega (arith, one))
stood stands (suc k) stand one few = get_or-set_same stands k stand None (omega (arith, few))

ok_not_err : {A B : Type 0} (a : A) (b : B) → Ok a ≡ Err b → ⊥
ok_not_err a b e = cc

event_waits : (b : Bool) → standings.Waits ≡ (if b then standings.Ended else standings.Goes) → ⊥
event_waits true e = cc
event_waits false e = cc

wait_ends : (b : Bool) → standings.Ended ≡ (if b then standings.WaitsTimed else standings.Waits) → ⊥
wait_ends true e = cc
wait_ends false e = cc

-- one that waits, and not with a timeout, has none
untimed : (b : Bool) (timeout : Option ℤ) → b ≡ false → standings.Waits ≡ (if (not b && is_some timeout) then standings.WaitsTimed else standings.Waits) → timeout ≡ None
untimed true timeout e h = cc
untimed false None e h = refl
untimed false (Some t) e h = cc

numbered : (rows : List Row) (job : ℕ) (row : Row) → row_at rows job ≡ Some row → (1 ≤ job) × (job ≤ length rows)
numbered rows zero row is = cc
numbered rows (suc k) row is = (omega arith, omega (arith, slice_get_within rows k row is))

-- what all jobs share serves what a job asks that another keeps busy
shared_of : (s : Shared) (job : ℕ) (a : Ask) (holder : ℕ) (held : Held) → KeepsBusy s job a holder held → is_shared a ≡ true
shared_of s job (asks.Shared ask) holder held keeps = refl
shared_of s job (asks.Device device ask) holder held keeps = absurd keeps
shared_of s job (asks.Rest time) holder held keeps = absurd keeps

-- the job is held, and nothing was asked or told
abbrev pub IsHeldStill : Shared → Shown → Shown → ℕ → Type 0
IsHeldStill opening old new job =
    (IsLive (state_of opening old.history).rows job → IsHeld (program_of old.image) opening old.history job) × (new.history ≡ old.history) × (new.image ≡ old.image)

abbrev history_of : Shown → History
history_of s = s.history

abbrev image_of : Shown → Loaded
image_of s = s.image

module _ (opening : Shared) (old new : Shown) (job : ℕ) (all : length old.stands ≡ 255) (few : length (state_of opening old.history).rows ≤ 255) where
  no_timeout : (row : Row) (at : AtAsk) → row_at (state_of opening old.history).rows job ≡ Some row → at.answered ≡ false
      → new ≡ record old { stands = with_stand old.stands job (Some at) }
      → standings.Waits ≡ waits_at (stand_at new.stands job) → timeout_of at.ask ≡ None
  no_timeout row at is unanswered left stands =
      let numbers = numbered (state_of opening old.history).rows job row is in
      let shown : stand_at new.stands job ≡ Some at =
      ap (λ (s : Shown). stand_at s.stands job) left ∙ stood old.stands job (Some at) numbers.0 (omega (arith, numbers.1, few, all)) in
      let P : Option AtAsk → Type 0 = λ s. standings.Waits ≡ waits_at s in
      untimed at.answered (timeout_of at.ask) unanswered (subst P shown stands)

  held_by : (what : Seen) → CoreStepGives opening old (go job) (Ok what) new → StandsSo new job what standings.Waits → IsHeldStill opening old new job
  held_by (seen.Event at) gives stands = absurd (event_waits _ stands)
  held_by seen.Unfit gives stands = absurd stands
  held_by seen.Ran gives stands = cc
  held_by seen.Ended gives stands = cc
  held_by (seen.Busy holder held) (inl nobody) stands = absurd (ok_not_err _ _ nobody.1)
  held_by (seen.Busy holder held) (inr (row, is, inl over)) stands = absurd (ok_not_err _ _ over.1)
  held_by (seen.Busy holder held) (inr (row, is, inr (inl full))) stands = absurd (ok_not_err _ _ full.2)
  held_by (seen.Busy holder held) (inr (row, is, inr (inr goes))) stands =
      let made = goes.2.1 in
      let shared = shared_of (state_of opening old.history) job made.0.ask holder held made.4 in
      ((λ live. (row, made.0, is, made.1, no_timeout row made.0 is made.1.1 made.5 stands, inl (shared, made.3))), ap history_of made.5, ap image_of made.5)
  held_by seen.NotYet (inl nobody) stands = absurd (ok_not_err _ _ nobody.1)
  held_by seen.NotYet (inr (row, is, inl over)) stands = absurd (ok_not_err _ _ over.1)
  held_by seen.NotYet (inr (row, is, inr (inl full))) stands = absurd (ok_not_err _ _ full.2)
  held_by seen.NotYet (inr (row, is, inr (inr goes))) stands =
      let made = goes.2.1 in
      ((λ live. (row, made.0, is, made.1, no_timeout row made.0 is made.1.1 made.3.3 stands, inr (made.3.0, made.3.2))), ap history_of made.3.3, ap image_of made.3.3)

  ended_by : (what : Seen) → CoreStepGives opening old (go job) (Ok what) new → StandsSo new job what standings.Ended → length new.history ≡ length old.history
      → IsHeldStill opening old new job
  ended_by seen.Unfit gives stands same = absurd stands
  ended_by seen.Ran gives stands same = cc
  ended_by (seen.Busy holder held) gives stands same = absurd (wait_ends _ stands)
  ended_by seen.NotYet gives stands same = absurd (wait_ends _ stands)
  ended_by (seen.Event at) (inl nobody) stands same = absurd (ok_not_err _ _ nobody.1)
  ended_by (seen.Event at) (inr (row, is, inl over)) stands same = absurd (ok_not_err _ _ over.1)
  ended_by (seen.Event at) (inr (row, is, inr (inl full))) stands same = absurd (ok_not_err _ _ full.2)
  ended_by (seen.Event at) (inr (row, is, inr (inr goes))) stands same =
      let made = goes.2.1 in
      let e : Event = record { job = job; ask = made.0.ask; reply = made.1 } in
      let longer : length new.history ≡ length (old.history ++ e ∷ []) = ap (λ (s : Shown). length s.history) made.5.1 in
      absurd (omega (arith, longer, length-append old.history (e ∷ []), same))
  ended_by seen.Ended (inl nobody) stands same = absurd (ok_not_err _ _ nobody.1)
  ended_by seen.Ended (inr (row, is, inl over)) stands same = absurd (ok_not_err _ _ over.1)
  ended_by seen.Ended (inr (row, is, inr (inl full))) stands same = absurd (ok_not_err _ _ full.2)
  ended_by seen.Ended (inr (row, is, inr (inr goes))) stands same = ((λ live. absurd (goes.2.0 live)), ap history_of goes.2.1, ap image_of goes.2.1)

  -- a step behind which the job waits, without a timeout
  pub held : (tells : Answering) → StepsAs tells opening old (go job) (Ok standings.Waits) new → IsHeldStill opening old new job
  held tells (what, gives, calls, stands) = held_by what gives stands

  -- a step behind which it is over, and that brought no event
  pub ended : (tells : Answering) → StepsAs tells opening old (go job) (Ok standings.Ended) new → length new.history ≡ length old.history → IsHeldStill opening old new job
  ended tells (what, gives, calls, stands) same = ended_by what gives stands same

-- ---- as the core has it that is stepped, which is that of the jobs

module _ (tells : Answering) (opening : Shared) (core old new : Shown) (job rows : ℕ) (same : core ≡ old) (all : length core.stands ≡ 255)
    (count : rows ≡ length (state_of opening core.history).rows) (few : rows ≤ 255) where
  all_stand : length old.stands ≡ 255
  all_stand = ap (λ (s : Shown). length s.stands) (sym same) ∙ all

  few_rows : length (state_of opening old.history).rows ≤ 255
  few_rows = subst (λ (s : Shown). length (state_of opening s.history).rows ≤ 255) same (subst (λ n. n ≤ 255) count few)

  -- a job that waits, without a timeout
  pub waits_still : (standing : Standing) → standing ≡ standings.Waits → StepsAs tells opening old (go job) (Ok standing) new → IsHeldStill opening old new job
  waits_still standing is steps =
      let S : Standing → Type 0 = λ s. StepsAs tells opening old (go job) (Ok s) new in
      held opening old new job all_stand few_rows tells (subst S is steps)

  -- one that is over, where no event came
  pub ended_still : (standing : Standing) (after : Shown) (events later : ℕ) → standing ≡ standings.Ended → StepsAs tells opening old (go job) (Ok standing) new
      → after ≡ new → events ≡ length core.history → later ≡ length after.history → later ≡ events → IsHeldStill opening old new job
  ended_still standing after events later is steps left before behind none =
      let S : Standing → Type 0 = λ s. StepsAs tells opening old (go job) (Ok s) new in
      let long : Shown → ℕ = λ (s : Shown). length s.history in
      ended opening old new job all_stand few_rows tells (subst S is steps) (sym (ap long left) ∙ sym behind ∙ none ∙ before ∙ ap long same)

-- ---- all jobs

-- a job that goes on has one of the numbers
pub is_numbered : (rows : List Row) (job : ℕ) → IsLive rows job → (1 ≤ job) × (job ≤ length rows)
is_numbered rows job live = numbered rows job live.0 live.1

-- the jobs up to one more
pub one_held_more : (P : ℕ → Type 0) (done : ℕ) → ((job : ℕ) → job ≤ done → P job) → P (done + 1) → (job : ℕ) → job ≤ done + 1 → P job
one_held_more P done before this job up = by (leb job done) refl
  where
    by : (b : Bool) → leb job done ≡ b → P job
    by true e = before job (leb-true job done e)
    by false e = let is : job ≡ done + 1 = omega (arith, leb-false job done e) in subst P (sym is) this

-- the job is held, if it goes on
abbrev pub IsHeldIn : Shared → Shown → ℕ → Type 0
IsHeldIn opening s job = IsLive (state_of opening s.history).rows job → IsHeld (program_of s.image) opening s.history job

-- and so where the history and the routines are the same
pub held_before : (opening : Shared) (now before : Shown) (job : ℕ) → now.history ≡ before.history → now.image ≡ before.image → IsHeldIn opening now job
    → IsHeldIn opening before job
held_before opening now before job h i held =
    let H : History → Type 0 = λ x. IsLive (state_of opening x).rows job → IsHeld (program_of now.image) opening x job in
    let I : Loaded → Type 0 = λ x. IsLive (state_of opening before.history).rows job → IsHeld (program_of x) opening before.history job in
    subst I i (subst H h held)
