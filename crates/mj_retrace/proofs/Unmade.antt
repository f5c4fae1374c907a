-- An event that isn't made again: with it the history is no run.
use Rattle.std.specs.Prelude.{ℤ, ◌==◌, ◌&&◌, ◌||◌, not, IsTrue, slice_get, Result, Ok, Err, if◌then◌else◌}
use Rattle.std.specs.Option.{is_some}
use Rattle.std.specs.Str.{bytes_eq}
use Rattle.std.proofs.Common.{◌≡◌, ℕ, ◌<◌, List, [], ◌∷◌, ◌++◌, length, Bool, true, false, Option, Some, None, refl, sym, ap, ◌∙◌, subst, inl, inr, arith}
use Rattle.std.proofs.lemmas.Option.{none-some, same_Some}
use Rattle.mj_ask.specs.declared.ask.Ask.{Ask}
use Rattle.mj_ask.specs.declared.ask.Ask.TheVariants as asks
use Rattle.mj_ask.specs.declared.ask.SharedAsk.{SharedAsk}
use Rattle.mj_ask.specs.declared.ask.SharedAsk.TheVariants as shared_asks
use Rattle.mj_ask.specs.declared.ask.Reply.{Reply}
use Rattle.mj_ask.specs.declared.ask.Reply.TheVariants as replies
use Rattle.mj_ask.specs.Fits.{fits, is_shared, is_done, is_late, timeout_of}
use Rattle.mj_ask.specs.Late.{is_timed_out}
use Rattle.mj_semantics.specs.Program.{Program}
use Rattle.mj_dev.specs.Shelves.{principal}
use Rattle.mj_locktab.specs.declared.taken.Taken.{Taken}
use Rattle.mj_locktab.specs.declared.taken.Taken.TheVariants as takes
use Rattle.mj_locktab.specs.Locks.{Locks}
use Rattle.mj_locktab.specs.Tries.{outcome_of, after_try}
use Rattle.mj_subs.specs.Name.{Name}
use Rattle.mj_semantics.specs.Job.{Start}
use Rattle.mj_load.specs.Image.{Loaded, program_of}
use Rattle.mj_jobs.specs.Rows.{Row, row_at}
use Rattle.mj_jobvm.specs.Run.{Log, IsTrace}
use Rattle.mj_sessions.specs.Follow.{AreTalks}
use Rattle.mj_steps.specs.declared.step.Refusal.{Refusal}
use Rattle.mj_steps.specs.declared.step.Refusal.TheVariants as refusals
use Rattle.mj_steps.specs.declared.step.Step.{Step}
use Rattle.mj_steps.specs.declared.step.Way.{Way}
use Rattle.mj_steps.specs.declared.step.Way.TheVariants as ways
use Rattle.mj_sys.specs.declared.event.Event.{Event}
use Rattle.mj_sys.specs.declared.served.Held.{Held}
use Rattle.mj_sys.specs.Devices.{Device, device_at}
use Rattle.mj_sys.specs.Shared.{Shared, busy, tried, open_free, open_known, answered, served}
use Rattle.mj_sys.specs.System.{KeepsBusy}
use Rattle.mj_sys.specs.History.{History, after, state_of, log_of}
use Rattle.mj_sys.proofs.Rows.{rows_kept, state_of_append, log_of_append}
use Rattle.mj_core.specs.declared.seen.Seen.{Seen}
use Rattle.mj_core.specs.declared.seen.Seen.TheVariants as seen
use Rattle.mj_core.specs.Happen.{Happens, AllHappen}
use Rattle.mj_core.specs.Runs.{IsRun, start_in}
use Rattle.mj_core.specs.Shown.{AtAsk, Shown, was_over}
use Rattle.mj_core.specs.Gives.{is_late as steps_late, Waits, IsReplyTold, JobStepGives}
use Rattle.mj_core.specs.Recorded.{IsRecorded, is_early, IsUnheard, repeating, RecordStepGives}
use Rattle.mj_core.proofs.Logs.{log_own}
use Rattle.mj_replica.specs.Replays.{IsUnmade}
use Rattle.mj_replica.proofs.Asking.{asks_one}
use Rattle.mj_replica.proofs.Serving.{always_late}
use Rattle.mj_retrace.specs.Made.{event_by, is_due, way_of, IsThere}
use Rattle.mj_retrace.proofs.Listed.{get_last}
use Rattle.mj_retrace.proofs.Noting.{true_not}
use Rattle.mj_retrace.proofs.Stepped.{IsGoing}

-- ---- what is told when

and_left : (a b : Bool) → (a && b) ≡ true → a ≡ true
and_left true b e = refl
and_left false b e = absurd (true_not (sym e))

and_right : (a b : Bool) → (a && b) ≡ true → b ≡ true
and_right true b e = e
and_right false b e = absurd (true_not (sym e))

-- only what has a timeout is told that it is late
due_late : (ask : Ask) (reply : Reply) → IsTrue (fits ask reply) → is_late reply ≡ true → is_due ask reply ≡ true
due_late ask replies.Late fit late = and_right _ (not true || is_some (timeout_of ask)) fit
due_late ask _ fit late = absurd (true_not (sym late))

due_timed : (ask : Ask) (reply : Reply) → is_due ask reply ≡ true → is_some (timeout_of ask) ≡ true
due_timed ask replies.Late due = due
due_timed ask _ due = absurd (true_not (sym due))

module _ (s : Shared) (reply : Reply) (t : Shared) (ask : Ask) where
  -- what is told only late is told then that it is late, and has a timeout
  abbrev OnlyLate : Option (Reply × Shared) → Option (Reply × Shared) → Type 0
  OnlyLate in_time late = in_time ≡ None → late ≡ Some (reply, t) → is_due ask reply ≡ true

  always_told : (told late : Option (Reply × Shared)) (x : Reply × Shared) → told ≡ Some x → OnlyLate told late
  always_told told late x is none gives = absurd (none-some x (sym none ∙ is))

  is_late_told : is_some (timeout_of ask) ≡ true → ◌≡◌ {A = Option (Reply × Shared)} (Some (replies.Late, s)) (Some (reply, t)) → is_due ask reply ≡ true
  is_late_told timed gives =
      let so : replies.Late ≡ reply = ap (λ (p : Reply × Shared). p.0) (same_Some (replies.Late, s) (reply, t) gives) in
      subst (λ r. is_due ask r ≡ true) so timed

  busy_late : (timeout : Option ℤ) → timeout_of ask ≡ timeout → OnlyLate (busy s timeout false) (busy s timeout true)
  busy_late None is none gives = absurd (none-some (reply, t) gives)
  busy_late (Some n) is none gives = is_late_told (ap is_some is) gives

  tried_late : (job : ℕ) (names : List Name) (timeout : Option ℤ) → timeout_of ask ≡ timeout → (taken : Taken) (locks : Locks)
      → OnlyLate (tried s job names timeout false taken locks) (tried s job names timeout true taken locks)
  tried_late job names timeout is takes.Got locks = always_told _ _ _ refl
  tried_late job names timeout is (takes.Busy holder name) locks = busy_late timeout is
  tried_late job names timeout is takes.Limit locks = always_told _ _ _ refl

  held_late : (timeout : Option ℤ) → timeout_of ask ≡ timeout → (b : Bool)
      → OnlyLate (if b then Some (replies.Got, s) else busy s timeout false) (if b then Some (replies.Got, s) else busy s timeout true)
  held_late timeout is true = always_told _ _ _ refl
  held_late timeout is false = busy_late timeout is

  known_late : (job : ℕ) (name : List ℕ) (timeout : Option ℤ) → timeout_of ask ≡ timeout → (d : Device) (holder : Option ℕ)
      → OnlyLate (elim holder [ None ↦ Some (open_free s job name d) | Some h ↦ if h == job then Some (replies.Got, s) else busy s timeout false ])
      (elim holder [ None ↦ Some (open_free s job name d) | Some h ↦ if h == job then Some (replies.Got, s) else busy s timeout true ])
  known_late job name timeout is d None = always_told _ _ _ refl
  known_late job name timeout is d (Some h) = held_late timeout is (h == job)

  found_late : (job : ℕ) (name : List ℕ) (timeout : Option ℤ) → timeout_of ask ≡ timeout → (found : Option Device)
      → OnlyLate (elim found [ None ↦ Some (replies.NoSession, s) | Some d ↦ open_known s job name timeout false d ])
      (elim found [ None ↦ Some (replies.NoSession, s) | Some d ↦ open_known s job name timeout true d ])
  found_late job name timeout is None = always_told _ _ _ refl
  found_late job name timeout is (Some d) = known_late job name timeout is d d.holder

  named_late : (job : ℕ) (name : List ℕ) (timeout : Option ℤ) → timeout_of ask ≡ timeout → (b : Bool)
      → OnlyLate
      (if b then Some (replies.Got, s) else elim (device_at s.devices name) [ None ↦ Some (replies.NoSession, s) | Some d ↦ open_known s job name timeout false d ])
      (if b then Some (replies.Got, s) else elim (device_at s.devices name) [ None ↦ Some (replies.NoSession, s) | Some d ↦ open_known s job name timeout true d ])
  named_late job name timeout is true = always_told _ _ _ refl
  named_late job name timeout is false = found_late job name timeout is (device_at s.devices name)

  shared_late : (job : ℕ) (a : SharedAsk) → ask ≡ asks.Shared a → OnlyLate (answered s job a false) (answered s job a true)
  shared_late job (shared_asks.Try names timeout) is =
      tried_late job names timeout (ap timeout_of is) (outcome_of s.locks job names) (after_try s.locks job names)
  shared_late job (shared_asks.Open name timeout) is = named_late job name timeout (ap timeout_of is) (bytes_eq name principal)
  shared_late job _ is = always_told _ _ _ refl

-- an ask that is told this only late has a timeout, and is told that it is late
told_late : (s : Shared) (reply : Reply) (t : Shared) (job : ℕ) (ask : Ask) → served s job ask false ≡ None → served s job ask true ≡ Some (reply, t)
    → is_due ask reply ≡ true
told_late s reply t job (asks.Shared a) none gives = shared_late s reply t (asks.Shared a) job a refl none gives
told_late s reply t job (asks.Device device a) none gives = absurd (none-some (reply, t) gives)
told_late s reply t job (asks.Rest time) none gives = absurd (none-some (reply, t) gives)

-- what is told nothing by such a step isn't served by this reply
busy_apart : (s : Shared) (reply : Reply) (t : Shared) (job : ℕ) (ask : Ask) (late late' : Bool) → late ≡ is_due ask reply → served s job ask late ≡ None
    → served s job ask late' ≡ Some (reply, t) → ⊥
busy_apart s reply t job ask true late' way none gives = none-some (reply, t) (sym none ∙ always_late s reply t job ask late' gives)
busy_apart s reply t job ask false false way none gives = none-some (reply, t) (sym none ∙ gives)
busy_apart s reply t job ask false true way none gives = true_not (sym (told_late s reply t job ask none gives) ∙ sym way)

busy_shared : (s : Shared) (job : ℕ) (a : Ask) (holder : ℕ) (held : Held) → KeepsBusy s job a holder held → is_shared a ≡ true
busy_shared s job (asks.Shared a) holder held keeps = refl
busy_shared s job (asks.Device device a) holder held keeps = absurd keeps
busy_shared s job (asks.Rest time) holder held keeps = absurd keeps

done_is : (r : Reply) → is_done r ≡ true → r ≡ replies.Done
done_is replies.Done is = refl
done_is _ is = absurd (true_not (sym is))

-- ---- what a run would say

happen_last : (s : Shared) (history : History) (e : Event) → AllHappen s (history ++ e ∷ []) → Happens (state_of s history) e
happen_last s [] e all = all.0
happen_last s (f ∷ history) e all = happen_last (after s f) history e all.1

module _ (image : Program) (opening : Shared) (history : History) (job : ℕ) (ask : Ask) (reply : Reply) where
  abbrev event : Event
  event = event_by job ask reply

  abbrev longer : History
  longer = history ++ event ∷ []

  abbrev state : Shared
  state = state_of opening history

  abbrev log : Log
  log = log_of job history

  abbrev Runs : Type 0
  Runs = IsRun image opening longer

  abbrev Unmade : Type 0
  Unmade = IsUnmade image opening history event

  happens : Runs → Happens state event
  happens run = happen_last opening history event run.happen

  log_on : log_of job longer ≡ log ++ (ask, reply) ∷ []
  log_on = log_of_append job history (event ∷ []) ∙ ap (λ (l : Log). log ++ l) (log_own job event refl)

  talked : Runs → AreTalks (log ++ (ask, reply) ∷ [])
  talked run = subst (λ (l : Log). AreTalks l) log_on (run.talks job)

  -- a job without a row, or that has ended, makes no event
  pub nobody : row_at state.rows job ≡ None → Unmade
  nobody none = inl (λ run. none-some (happens run).0.0 (sym none ∙ (happens run).0.1))

  -- what all jobs share tells it the reply, even if it is late
  served_late : Runs → is_shared ask ≡ true → served state job ask true ≡ Some (reply, after state event)
  served_late run shared = let is = (happens run).1 shared in always_late state reply (after state event) job ask is.2.0 is.2.1

  module _ (row : Row) (there : row_at state.rows job ≡ Some row) where
    abbrev start : Start
    start = start_in job row.start

    traced : Runs → IsTrace image start (log ++ (ask, reply) ∷ [])
    traced run =
        let later = (rows_kept state (event ∷ [])).starts job row there in
        let here : row_at (state_of opening longer).rows job ≡ Some later.0 = ap (λ (s : Shared). row_at s.rows job) (state_of_append opening history (event ∷ [])) ∙ later.1 in
        let P : Start → Type 0 = λ s. IsTrace image s (log_of job longer) in
        subst (λ (l : Log). IsTrace image start l) log_on (subst P (ap (start_in job) later.2) (run.traces job later.0 here))

    module _ (at : AtAsk) (waits : Waits image start log at) (late : Bool) (way : late ≡ is_due ask reply) where
      -- what the job asks next is this, and the reply fits it
      asked : Runs → (at.ask ≡ ask) × IsTrue (fits ask reply)
      asked run = let one = asks_one image start log ask reply waits.0.0 at.ask at.locals at.places waits.0.1 (traced run) in (one.0, one.1)

      -- nobody can answer it so
      unheard : IsUnheard log at.ask late (Some reply) → Unmade
      unheard is = inl (λ run. by (asked run) (talked run) (let P : Ask → Type 0 = λ a. IsUnheard log a late (Some reply) in subst P (asked run).0 is))
        where
          early : (o : Option ℤ) → late ≡ is_some o → is_some o ≡ true → not (is_timed_out o late) ≡ true → ⊥
          early None so timed is = true_not (sym timed)
          early (Some n) so timed is =
              let P : Bool → Type 0 = λ b. not (is_timed_out (Some n) b) ≡ true in
              true_not (sym (subst P so is))

          not_early : (r : Reply) → IsTrue (fits ask r) → late ≡ is_due ask r → is_early ask late r ≡ true → ⊥
          not_early replies.Late fit so is = early (timeout_of ask) so (due_late ask replies.Late fit refl) is
          not_early _ fit so is = true_not (sym is)

          by : (at.ask ≡ ask) × IsTrue (fits ask reply) → AreTalks (log ++ (ask, reply) ∷ []) → IsUnheard log ask late (Some reply) → ⊥
          by its talks (inl unfit) = true_not (sym its.1 ∙ unfit)
          by its talks (inr (inl is)) = not_early reply its.1 way is
          by its talks (inr (inr isnt)) = isnt talks

      -- another job has it
      busy_so : (holder : ℕ) (held : Held) → served state job at.ask late ≡ None → KeepsBusy state job at.ask holder held → Unmade
      busy_so holder held none keeps = inl (λ run.
          (let its = (asked run).0 in
          let K : Ask → Type 0 = λ a. KeepsBusy state job a holder held in
          let N : Ask → Type 0 = λ a. served state job a late ≡ None in
          let is = (happens run).1 (busy_shared state job ask holder held (subst K its keeps)) in
          busy_apart state reply (after state event) job ask late is.2.0 way (subst N its none) is.2.1))

      -- it is late, and has no timeout
      untimed : late ≡ true → timeout_of at.ask ≡ None → Unmade
      untimed is none = inl (λ run.
          (let its = (asked run).0 in
          let timed = due_timed ask reply (sym way ∙ is) in
          true_not (sym timed ∙ ap is_some (sym (ap timeout_of its)) ∙ ap is_some none)))

      -- it was told something else
      module _ (other : Reply) (s' : Shared) (told : IsReplyTold state job at.ask late other s') (recorded : IsRecorded (Some reply) at.ask other)
          (differs : at.ask ≡ ask → other ≡ reply → ⊥) where
        same_shared : Runs → is_shared ask ≡ true → served state job ask late ≡ Some (other, s') → other ≡ reply
        same_shared run shared gives =
            let late_so = always_late state other s' job ask late gives in
            ap (λ (p : Reply × Shared). p.0) (same_Some (other, s') (reply, after state event) (sym late_so ∙ served_late run shared))

        same_by : (a : Ask) → fits a other ≡ true → IsTrue (fits a reply) → (is_shared a ≡ true → other ≡ reply) → IsRecorded (Some reply) a other → other ≡ reply
        same_by (asks.Shared x) one two shared given = shared refl
        same_by (asks.Device name x) one two shared given = sym (same_Some reply other (given (name, refl)))
        same_by (asks.Rest time) one two shared given =
            done_is other (and_left (is_done other) (not (is_late other) || false) one) ∙ sym (done_is reply (and_left (is_done reply) (not (is_late reply) || false) two))

        told_other : Unmade
        told_other = inl (λ run.
            (let its = asked run in
            let F : Ask → Type 0 = λ a. fits a other ≡ true in
            let S : Ask → Type 0 = λ a. is_shared a ≡ true → served state job a late ≡ Some (other, s') in
            let R : Ask → Type 0 = λ a. IsRecorded (Some reply) a other in
            differs its.0 (same_by ask (subst F its.0 told.fit) its.1 (λ shared. same_shared run shared (subst S its.0 told.shared shared)) (subst R its.0 recorded))))

-- ---- a step

-- the step doesn't make this event: it doesn't go on without one, memory isn't refused, and where it makes one that isn't it
abbrev pub MakesNot : Shown → Ask → Reply → Result Seen Refusal → Type 0
MakesNot new ask reply (Ok seen.Ran) = ⊥
MakesNot new ask reply (Ok (seen.Event place)) = IsThere new.history place ask reply → ⊥
MakesNot new ask reply (Ok what) = Unit {0}
MakesNot new ask reply (Err refusals.Memory) = ⊥
MakesNot new ask reply (Err why) = Unit {0}

module _ (opening : Shared) (old new : Shown) (job : ℕ) (ask : Ask) (reply : Reply) (late : Bool) (way : late ≡ is_due ask reply)
    (row : Row) (there : row_at (state_of opening old.history).rows job ≡ Some row) where
  abbrev Isnt : Type 0
  Isnt = IsUnmade (program_of old.image) opening old.history (event_by job ask reply)

  job_unmade : (answer : Result Seen Refusal) → JobStepGives repeating opening old job row late (Some reply) answer new → MakesNot new ask reply answer → Isnt
  job_unmade (Ok seen.Ended) made makes = inl (λ run. made.0 (happens (program_of old.image) opening old.history job ask reply run).0)
  job_unmade (Ok (seen.Event place)) made makes =
      let goes = made.1 in
      let is = goes.5.1.1 in
      told_other (program_of old.image) opening old.history job ask reply row there goes.0 goes.2 late way goes.1 (state_of opening new.history) goes.4 goes.5.0
      (λ same_ask same_reply. makes (
        job,
        ap (λ (s : Shown). slice_get s.history place) is ∙ ap (slice_get (old.history ++ event_by job goes.0.ask goes.1 ∷ [])) goes.5.1.0
            ∙ get_last old.history (event_by job goes.0.ask goes.1) ∙ (λ i. Some (event_by job (same_ask i) (same_reply i))),
      ))
  job_unmade (Ok (seen.Busy holder held)) made makes =
      busy_so (program_of old.image) opening old.history job ask reply row there made.1.0 made.1.1 late way holder held made.1.3 made.1.4
  job_unmade (Ok seen.NotYet) made makes = absurd made.1.3
  job_unmade (Ok seen.Unfit) made makes = unheard (program_of old.image) opening old.history job ask reply row there made.1.0 made.1.1 late way made.1.3.1
  job_unmade (Ok seen.Ran) made makes = absurd makes
  job_unmade (Err refusals.Memory) made makes = absurd makes
  job_unmade (Err refusals.NotTimed) (inl made) makes = absurd (let isnt : refusals.NotTimed ≡ refusals.Memory = made.0 in cc)
  job_unmade (Err refusals.NotTimed) (inr made) makes =
      let timed = made.1.1 in
      untimed (program_of old.image) opening old.history job ask reply row there timed.0 timed.1 late way made.1.0 timed.2
  job_unmade (Err refusals.NoJob) (inl made) makes = absurd (let isnt : refusals.NoJob ≡ refusals.Memory = made.0 in cc)
  job_unmade (Err refusals.NoJob) (inr made) makes = absurd made.1
  job_unmade (Err refusals.Ended) (inl made) makes = absurd (let isnt : refusals.Ended ≡ refusals.Memory = made.0 in cc)
  job_unmade (Err refusals.Ended) (inr made) makes = absurd made.1
  job_unmade (Err refusals.Full) (inl made) makes = absurd (let isnt : refusals.Full ≡ refusals.Memory = made.0 in cc)
  job_unmade (Err refusals.Full) (inr made) makes = absurd made.1

-- a job is stepped late where it has to be late
way_due : (ask : Ask) (reply : Reply) (way : Way) → way ≡ way_of ask reply → steps_late way ≡ is_due ask reply
way_due ask reply way is = ap steps_late is ∙ by (is_due ask reply)
  where
    by : (b : Bool) → steps_late (if b then ways.Late else ways.Go) ≡ b
    by true = refl
    by false = refl

-- where nobody's end was seen and the history has room, such a step shows that the event isn't made
pub step_unmade : (opening : Shared) (old new : Shown) (step : Step) (ask : Ask) (reply : Reply) (answer : Result Seen Refusal)
    → RecordStepGives opening old step (Some reply) answer new → steps_late step.way ≡ is_due ask reply → was_over old.over step.job ≡ false
    → length old.history < old.image.bounds.events → MakesNot new ask reply answer → IsUnmade (program_of old.image) opening old.history (event_by step.job ask reply)
step_unmade opening old new step ask reply answer (inl none) way going short makes = nobody (program_of old.image) opening old.history step.job ask reply none.0
step_unmade opening old new step ask reply answer (inr (row, is, inl over)) way going short makes = absurd (true_not (sym over.0 ∙ going))
step_unmade opening old new step ask reply answer (inr (row, is, inr (inl full))) way going short makes = absurd (let past = full.1 in omega (arith, past, short))
step_unmade opening old new step ask reply answer (inr (row, is, inr (inr goes))) way going short makes =
    job_unmade opening old new step.job ask reply (steps_late step.way) way row is answer goes.2 makes

-- behind steps in which nothing was asked or told
module _ (opening : Shared) (first old new : Shown) (step : Step) (ask : Ask) (reply : Reply) (steps : ℕ) (going : IsGoing opening first step.job steps old)
    (way : step.way ≡ way_of ask reply) (short : length first.history < first.image.bounds.events) (unseen : was_over first.over step.job ≡ false) where
  abbrev pub IsntMade : Type 0
  IsntMade = IsUnmade (program_of first.image) opening first.history (event_by step.job ask reply)

  isnt_made : (answer : Result Seen Refusal) → RecordStepGives opening old step (Some reply) answer new → MakesNot new ask reply answer → IsntMade
  isnt_made answer gives makes =
      let short_old : length old.history < old.image.bounds.events =
      subst (λ (h : History). length h < old.image.bounds.events) (sym going.history)
      (subst (λ (i : Loaded). length first.history < i.bounds.events) (sym going.image) short) in
      let unseen_old : was_over old.over step.job ≡ false = ap (λ (o : List Bool). was_over o step.job) going.over ∙ unseen in
      let P : Loaded → History → Type 0 = λ i h. IsUnmade (program_of i) opening h (event_by step.job ask reply) in
      subst (λ i. P i first.history) going.image (subst (λ h. P old.image h) going.history
      (step_unmade opening old new step ask reply answer gives (way_due ask reply step.way way) unseen_old short_old makes))

  -- it made another event
  pub made_other : (what : Seen) (place : ℕ) → what ≡ seen.Event place → (IsThere new.history place ask reply → ⊥) → RecordStepGives opening old step (Some reply) (Ok what) new → IsntMade
  made_other what place is isnt gives =
      let P : Seen → Type 0 = λ w. RecordStepGives opening old step (Some reply) (Ok w) new in
      isnt_made (Ok (seen.Event place)) (subst P is gives) isnt

  -- it made none
  pub made_none : (what : Seen) → (what ≡ seen.Ran → ⊥) → ((place : ℕ) → what ≡ seen.Event place → ⊥) → RecordStepGives opening old step (Some reply) (Ok what) new → IsntMade
  made_none seen.Ran ran none gives = absurd (ran refl)
  made_none (seen.Event place) ran none gives = absurd (none place refl)
  made_none (seen.Busy holder held) ran none gives = isnt_made (Ok (seen.Busy holder held)) gives tt
  made_none seen.NotYet ran none gives = isnt_made (Ok seen.NotYet) gives tt
  made_none seen.Unfit ran none gives = isnt_made (Ok seen.Unfit) gives tt
  made_none seen.Ended ran none gives = isnt_made (Ok seen.Ended) gives tt

  -- it wasn't made itself, for another reason than memory
  pub step_refused : (why : Refusal) → (why ≡ refusals.Memory → ⊥) → RecordStepGives opening old step (Some reply) (Err why) new → IsntMade
  step_refused refusals.Memory isnt gives = absurd (isnt refl)
  step_refused refusals.NoJob isnt gives = isnt_made (Err refusals.NoJob) gives tt
  step_refused refusals.NotTimed isnt gives = isnt_made (Err refusals.NotTimed) gives tt
  step_refused refusals.Ended isnt gives = isnt_made (Err refusals.Ended) gives tt
  step_refused refusals.Full isnt gives = isnt_made (Err refusals.Full) gives tt
