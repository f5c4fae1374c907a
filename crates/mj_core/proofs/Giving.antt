-- What a step of one job gives is what a step of a core gives.
use Rattle.std.specs.Prelude.{min, slice_get, slice_set, Result}
use Rattle.std.specs.List.{slice_index_or}
use Rattle.std.proofs.Common.{◌≡◌, ℕ, zero, suc, ◌+◌, ◌<◌, List, [], ◌∷◌, ◌++◌, length, Bool, Option, Some, None, refl, sym, ap, ◌∙◌, subst, arith}
use Rattle.mj_ask.specs.declared.ask.Reply.{Reply}
use Rattle.mj_load.specs.Image.{Loaded, program_of}
use Rattle.mj_jobs.specs.Rows.{Row, row_at}
use Rattle.mj_semantics.specs.Job.{Start}
use Rattle.mj_jobvm.specs.Run.{Log, GoesOn, HasEnded}
use Rattle.mj_sys.specs.declared.served.Held.{Held}
use Rattle.mj_sys.specs.Shared.{Shared, served}
use Rattle.mj_sys.specs.History.{History, state_of, log_of}
use Rattle.mj_sys.specs.System.{Recorded, Claimed, KeepsBusy}
use Rattle.mj_core.specs.declared.happened.Happened.{Happened}
use Rattle.mj_core.specs.Woven.{woven}
use Rattle.mj_core.specs.declared.seen.Seen.{Seen}
use Rattle.mj_core.specs.declared.seen.Seen.TheVariants as seen
use Rattle.mj_steps.specs.declared.step.Refusal.{Refusal}
use Rattle.mj_steps.specs.declared.step.Step.{Step}
use Rattle.mj_core.specs.declared.parts.Made.TheVariants as made
use Rattle.mj_core.specs.Runs.{start_in}
use Rattle.mj_core.specs.Shown.{AtAsk, Shown, with_spent, stand_at, with_stand}
use Rattle.mj_core.specs.Having.{has_session}
use Rattle.mj_core.specs.Gives.{fuel, spent_limit, Waits, answered, stands_so, MayGoOn, IsTimely, IsReplyTold, IsStepRefused, LiveStepGives, StepGivesBy, RunGivesBy}
use Rattle.mj_core.specs.Meaning.{Means}
use Rattle.mj_core.specs.Answering.{Answering, HasStill}
use Rattle.mj_core.specs.Ties.{Placed, IsPlaced, IsStanding, start_of, stand_of, Steps}
use Rattle.mj_core.specs.Kept.{AreKept, IsSlotOf, logs_of, each_of, turns_of, stands_of, shown}
use Rattle.mj_core.proofs.Histories.{same_state, starts}
use Rattle.mj_core.proofs.Keeping.{shows_event, shows_still}
use Rattle.mj_core.proofs.Views.{as_many}

-- ---- what there is of each job

module _ {A X : Type 0} (none : X) (one : Placed A → X) where
  -- what there is of a job is that of its slot
  pub each_at : (n k : ℕ) (slots : List (Placed A)) (slot : Placed A) → k < n → slice_get slots k ≡ Some slot → slice_index_or (each_of none one n slots) k none ≡ one slot
  each_at zero k slots slot few here = absurd (let no : ⊥ = omega (arith, few) in no)
  each_at (suc n) k [] slot few here = absurd (let no : None ≡ Some slot = here in cc)
  each_at (suc n) zero (s ∷ slots) slot few here = (let same : Some s ≡ Some slot = here in let is : s ≡ slot = cc in ap one is)
  each_at (suc n) (suc k) (s ∷ slots) slot few here = each_at n k slots slot (omega (arith, few)) here

  -- without one it is this
  pub each_past : (n k : ℕ) (slots : List (Placed A)) → slice_get slots k ≡ None → slice_index_or (each_of none one n slots) k none ≡ none
  each_past zero k slots past = refl
  each_past (suc n) zero [] past = refl
  each_past (suc n) (suc k) [] past = each_past n k [] refl
  each_past (suc n) zero (s ∷ slots) past = absurd (let no : Some s ≡ None = past in cc)
  each_past (suc n) (suc k) (s ∷ slots) past = each_past n k slots past

  -- another slot at its place
  pub each_on : (n k : ℕ) (slots : List (Placed A)) (slot slot' : Placed A) → slice_get slots k ≡ Some slot
      → each_of none one n (slice_set slots k slot') ≡ slice_set (each_of none one n slots) k (one slot')
  each_on zero k slots slot slot' here = refl
  each_on (suc n) k [] slot slot' here = absurd (let no : None ≡ Some slot = here in cc)
  each_on (suc n) zero (s ∷ slots) slot slot' here = refl
  each_on (suc n) (suc k) (s ∷ slots) slot slot' here = ap (λ l. one s ∷ l) (each_on n k slots slot slot' here)

  -- one of which there is the same
  pub each_still : (n k : ℕ) (slots : List (Placed A)) (slot slot' : Placed A) → slice_get slots k ≡ Some slot → one slot' ≡ one slot
      → each_of none one n (slice_set slots k slot') ≡ each_of none one n slots
  each_still zero k slots slot slot' here same = refl
  each_still (suc n) k [] slot slot' here same = absurd (let no : None ≡ Some slot = here in cc)
  each_still (suc n) zero (s ∷ slots) slot slot' here same =
      (let is : Some s ≡ Some slot = here in let it : s ≡ slot = cc in ap (λ t. t ∷ each_of none one n slots) (same ∙ ap one (sym it)))
  each_still (suc n) (suc k) (s ∷ slots) slot slot' here same = ap (λ l. one s ∷ l) (each_still n k slots slot slot' here same)

  -- a slot more, of which there is this
  pub each_more : (n : ℕ) (slots : List (Placed A)) (slot : Placed A) → one slot ≡ none → each_of none one n (slots ++ slot ∷ []) ≡ each_of none one n slots
  each_more zero slots slot is = refl
  each_more (suc n) [] slot is = ap (λ t. t ∷ each_of none one n []) is
  each_more (suc n) (s ∷ slots) slot is = ap (λ l. one s ∷ l) (each_more n slots slot is)

  -- as many as there may be
  pub each_long : (n : ℕ) (slots : List (Placed A)) → length (each_of none one n slots) ≡ n
  each_long zero slots = refl
  each_long (suc n) [] = ap (λ l. suc l) (each_long n [])
  each_long (suc n) (s ∷ slots) = ap (λ l. suc l) (each_long n slots)

-- a job is shown to stand as its slot does
pub stands_shown : {A : Type 0} (n k : ℕ) (slots : List (Placed A)) (slot : Placed A) → k < n → slice_get slots k ≡ Some slot
    → stand_at (stands_of n slots) (suc k) ≡ stand_of slot
stands_shown {A = A} n k slots slot few here = each_at None (λ (s : Placed A). stand_of s) n k slots slot few here

pub may_go_shown : {A : Type 0} (n k : ℕ) (slots : List (Placed A)) (slot : Placed A) → k < n → slice_get slots k ≡ Some slot → MayGoOn (stand_of slot)
    → MayGoOn (stand_at (stands_of n slots) (suc k))
may_go_shown n k slots slot few here may at is = may at (sym (stands_shown n k slots slot few here) ∙ is)

-- ---- what a step of one slot gives

module _ {A : Type 0} (ans : Answering A) (image : Loaded) (opening : Shared) (system : Recorded) (slots : List (Placed A)) (waiting : Option Claimed) (order : List Happened)
    (kept : AreKept ans image opening system slots waiting order) (over : List Bool) (n k : ℕ) (few : k < n) (slot slot' : Placed A) (here : slice_get slots k ≡ Some slot)
    (numbered : slot'.claim.job ≡ slot.claim.job) (row : Row) (is : row_at (state_of opening (woven (logs_of slots) order)).rows (suc k) ≡ Some row) (late : Bool) (given : Option Reply) where
  abbrev old : Shown
  old = shown image slots order over n

  abbrev start : Start
  start = start_in (suc k) row.start

  abbrev slots' : List (Placed A)
  slots' = slice_set slots k slot'

  at : IsSlotOf ans image opening system old.history (suc k) slot
  at = kept.tied k slot here

  same : state_of opening old.history ≡ state_of opening system.history
  same = same_state ans image opening system slots waiting order kept

  -- what is said of the slot is said of its job
  pub move : (F : ℕ → Start → Log → Shared → Type 0) → F slot.claim.job (start_of slot) slot.job.run.log (state_of opening system.history)
      → F (suc k) start (log_of (suc k) old.history) (state_of opening old.history)
  move F x =
      subst (λ s. F (suc k) start (log_of (suc k) old.history) s) (sym same)
      (subst (λ l. F (suc k) start l (state_of opening system.history)) (sym at.logged)
      (subst (λ s. F (suc k) s slot.job.run.log (state_of opening system.history)) (starts ans image opening system slots waiting order kept k slot row here is)
      (subst (λ j. F j (start_of slot) slot.job.run.log (state_of opening system.history)) at.numbered x)))

  abbrev seen_with : History → List ℕ → List (Option AtAsk) → Shown
  seen_with history spent stands = record { image = image; history = history; over = over; spent = spent; stands = stands }

  turns_on : turns_of n slots' ≡ with_spent old.spent (suc k) slot'.job.run.spent
  turns_on = each_on 0 (λ (s : Placed A). s.job.run.spent) n k slots slot slot' here

  stands_on : stands_of n slots' ≡ with_stand old.stands (suc k) (stand_of slot')
  stands_on = each_on None (λ (s : Placed A). stand_of s) n k slots slot slot' here

  -- nothing was asked or told
  module _ (log : slot'.job.run.log ≡ slot.job.run.log) (stays : HasStill ans slot.answerer slot'.answerer) (placed : IsPlaced ans image opening system slot')
      (standing : IsStanding image slot') where
    history_still : woven (logs_of slots') order ≡ old.history
    history_still = shows_still ans image opening system slots waiting order kept k slot slot' here numbered placed standing log stays

    pub shown_still : slot'.job.run.spent ≡ slot.job.run.spent → shown image slots' order over n ≡ stands_so old (suc k) (stand_of slot')
    shown_still spent =
        ap (λ h. seen_with h (turns_of n slots') (stands_of n slots')) history_still
        ∙ ap (λ t. seen_with old.history t (stands_of n slots')) (each_still 0 (λ (s : Placed A). s.job.run.spent) n k slots slot slot' here spent)
        ∙ ap (λ d. seen_with old.history old.spent d) stands_on

    pub shown_spent : shown image slots' order over n
        ≡ record old { spent = with_spent old.spent (suc k) slot'.job.run.spent; stands = with_stand old.stands (suc k) (stand_of slot') }
    shown_spent =
        ap (λ h. seen_with h (turns_of n slots') (stands_of n slots')) history_still
        ∙ ap (λ t. seen_with old.history t (stands_of n slots')) turns_on
        ∙ ap (λ d. seen_with old.history (with_spent old.spent (suc k) slot'.job.run.spent) d) stands_on

  -- nothing is told
  module _ (log : slot'.job.run.log ≡ slot.job.run.log) (stays : HasStill ans slot.answerer slot'.answerer) (spent : slot'.job.run.spent ≡ slot.job.run.spent)
      (system' : Recorded) (placed : IsPlaced ans image opening system slot') (standing : IsStanding image slot') where
    abbrev still : Shown
    still = shown image slots' order over n

    is_at : (to : AtAsk) → stand_of slot' ≡ Some to → still ≡ stands_so old (suc k) (Some to)
    is_at to shows = shown_still log stays placed standing spent ∙ ap (λ d. stands_so old (suc k) d) shows

    pub gives_busy : (holder : ℕ) (held : Held) → Steps ans (program_of image) opening late given system slot (made.Busy holder held) system' slot'
        → LiveStepGives ans.means (program_of image) opening (suc k) start late given old (seen.Busy holder held) still
    gives_busy holder held t =
        let F : ℕ → Start → Log → Shared → Type 0 = λ j st l s.
        Waits (program_of image) st l t.0 × (served s j t.0.ask late ≡ None) × KeepsBusy s j t.0.ask holder held in
        let there = move F (t.1, t.3, t.4) in
        (t.0, there.0, t.2, there.1, there.2, is_at t.0 t.7)

    pub gives_not_yet : Steps ans (program_of image) opening late given system slot made.NotYet system' slot'
        → LiveStepGives ans.means (program_of image) opening (suc k) start late given old seen.NotYet still
    gives_not_yet t =
        let F : ℕ → Start → Log → Shared → Type 0 = λ j st l s. Waits (program_of image) st l t.0 × ans.means.NotYet l t.0.ask late (Unit {0}) in
        let there = move F (t.1, t.3) in
        (t.0, there.0, t.2, ans.means.with_not_yet (log_of (suc k) old.history) t.0.ask late (still ≡ stands_so old (suc k) (Some t.0)) there.1 (is_at t.0 t.6))

    pub gives_unfit : Steps ans (program_of image) opening late given system slot made.Unfit system' slot'
        → LiveStepGives ans.means (program_of image) opening (suc k) start late given old seen.Unfit still
    gives_unfit t =
        let has : List ℕ → Bool = λ name. has_session opening (suc k) name old.history in
        let F : ℕ → Start → Log → Shared → Type 0 = λ j st l s. Waits (program_of image) st l t.0 × ans.means.Unfit s l has t.0.ask late given (Unit {0}) in
        let there = move F (t.1, t.3 has at.held) in (
          t.0,
          there.0,
          t.2,
          ans.means.with_unfit (state_of opening old.history) (log_of (suc k) old.history) has t.0.ask late given (still ≡ stands_so old (suc k) (Some t.0)) there.1
              (is_at t.0 t.6),
        )

  -- its run is over with its events
  pub gives_ended : (system' : Recorded) → Steps ans (program_of image) opening late given system slot made.Ended system' slot'
      → HasEnded (program_of image) start (log_of (suc k) old.history)
  gives_ended system' t =
      let F : ℕ → Start → Log → Shared → Type 0 = λ j st l s. HasEnded (program_of image) st l in
      move F t.0

  -- it goes on for all turns
  pub gives_ran : (log : slot'.job.run.log ≡ slot.job.run.log) (stays : HasStill ans slot.answerer slot'.answerer) → IsPlaced ans image opening system slot' → IsStanding image slot'
      → slot'.job.run.spent ≡ min (slot.job.run.spent + fuel) spent_limit → GoesOn (program_of image) (start_of slot) slot.job.run.log slot'.job.run.spent
      → stand_of slot' ≡ None → MayGoOn (stand_of slot)
      → LiveStepGives ans.means (program_of image) opening (suc k) start late given old seen.Ran (shown image slots' order over n)
  gives_ran log sessions placed standing counts goes none may =
      let F : ℕ → Start → Log → Shared → Type 0 = λ j st l s. GoesOn (program_of image) st l slot'.job.run.spent in (
        slot'.job.run.spent,
        counts ∙ ap (λ t. min (t + fuel) spent_limit) (sym (each_at 0 (λ (s : Placed A). s.job.run.spent) n k slots slot few here)),
        move F goes,
        may_go_shown n k slots slot few here may,
        shown_spent log sessions placed standing
            ∙ ap (λ d. record old { spent = with_spent old.spent (suc k) slot'.job.run.spent; stands = with_stand old.stands (suc k) d }) none,
      )

  -- it is told a reply
  module _ (to : AtAsk) (reply : Reply) (system' : Recorded) (log : slot'.job.run.log ≡ slot.job.run.log ++ (to.ask, reply) ∷ []) (spent : slot'.job.run.spent ≡ 0)
      (kept' : AreKept ans image opening system' slots' waiting (order ++ record { job = suc k; at = length slot.job.run.log } ∷ [])) where
    abbrev order' : List Happened
    order' = order ++ record { job = suc k; at = length slot.job.run.log } ∷ []

    abbrev new : Shown
    new = shown image slots' order' over n

    abbrev history' : History
    history' = old.history ++ record { job = suc k; ask = to.ask; reply = reply } ∷ []

    pub gives_event : Waits (program_of image) (start_of slot) slot.job.run.log to → IsTimely late to.ask
        → IsReplyTold (state_of opening system.history) slot.claim.job to.ask late reply (state_of opening system'.history)
        → ans.means.Told slot.job.run.log given to.ask late reply (Unit {0}) → stand_of slot' ≡ Some (answered to)
        → LiveStepGives ans.means (program_of image) opening (suc k) start late given old (seen.Event (length order)) new
    gives_event waits timely told said shows =
        let later : state_of opening new.history ≡ state_of opening system'.history = same_state ans image opening system' slots' waiting order' kept' in
        let F : ℕ → Start → Log → Shared → Type 0 = λ j st l s. Waits (program_of image) st l to × IsReplyTold s j to.ask late reply (state_of opening system'.history) in
        let there = move F (waits, told) in
        let T : ℕ → Start → Log → Shared → Type 0 = λ j st l s. ans.means.Told l given to.ask late reply (Unit {0}) in
        let long : length order ≡ length old.history = sym (as_many (logs_of slots) order kept.there) in
        let history_on = shows_event ans image opening system slots waiting order kept k slot slot' here numbered system' to.ask reply late log in
        let is : new ≡ record old { history = history'; spent = with_spent old.spent (suc k) 0; stands = with_stand old.stands (suc k) (Some (answered to)) } =
        ap (λ h. seen_with h (turns_of n slots') (stands_of n slots')) history_on
        ∙ ap (λ t. seen_with history' t (stands_of n slots')) (turns_on ∙ ap (λ t. slice_set (turns_of n slots) k t) spent)
        ∙ ap (λ d. seen_with history' (with_spent old.spent (suc k) 0) d) (stands_on ∙ ap (λ d. with_stand old.stands (suc k) d) shows) in (
          to,
          reply,
          there.0,
          timely,
          subst (λ s. IsReplyTold (state_of opening old.history) (suc k) to.ask late reply s) (sym later) there.1,
          ans.means.with_told (log_of (suc k) old.history) given to.ask late reply
              ((length order ≡ length old.history)
              × (new ≡ record old { history = history'; spent = with_spent old.spent (suc k) 0; stands = with_stand old.stands (suc k) (Some (answered to)) }))
              (move T said) (long, is),
        )

  -- it isn't made
  pub refuses : (why : Refusal) → IsStepRefused (program_of image) (start_of slot) slot.job.run.log (stand_of slot) late why (stand_of slot')
      → IsStepRefused (program_of image) start (log_of (suc k) old.history) (stand_at old.stands (suc k)) late why (stand_of slot')
  refuses why is_refused =
      let F : ℕ → Start → Log → Shared → Type 0 = λ j st l s. IsStepRefused (program_of image) st l (stand_of slot) late why (stand_of slot') in
      let S : Option AtAsk → Type 0 = λ stood. IsStepRefused (program_of image) start (log_of (suc k) old.history) stood late why (stand_of slot') in
      subst S (sym (stands_shown n k slots slot few here)) (move F is_refused)

-- ---- lists of steps

-- one step more
pub run_on : (means : Means) (opening : Shared) (before mid behind : Shown) (steps : List Step) (answers : List (Result Seen Refusal)) (step : Step)
    (answer : Result Seen Refusal) → RunGivesBy means opening before steps answers mid → StepGivesBy means opening mid step None answer behind
    → RunGivesBy means opening before (steps ++ step ∷ []) (answers ++ answer ∷ []) behind
run_on means opening before mid behind [] [] step answer run gives = (behind, subst (λ m. StepGivesBy means opening m step None answer behind) run gives, refl)
run_on means opening before mid behind (first ∷ steps) (told ∷ answers) step answer run gives =
    (run.0, run.1, run_on means opening run.0 mid behind steps answers step answer run.2 gives)
run_on means opening before mid behind [] (told ∷ answers) step answer run gives = absurd run
run_on means opening before mid behind (first ∷ steps) [] step answer run gives = absurd run
