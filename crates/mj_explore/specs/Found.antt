-- What runs by chance come to. A run by chance may be any list of steps.
use Rattle.std.specs.Prelude.{◌≡◌, ◌<◌, ℕ, ◌-◌, ◌^◌, min, nat_lt, List, [], ◌∷◌, ◌++◌, length, map, Bool, true, false, Option, Some, None, All, ◌⊎◌, IfSome}
use Rattle.std.specs.List.{count_by}
use Rattle.std.specs.Str.{bytes_eq}
use Rattle.mj_ask.specs.Fits.{is_shared, timeout_of}
use Rattle.mj_semantics.specs.Program.{Program}
use Rattle.mj_jobs.specs.Rows.{Row, row_at, IsLive}
use Rattle.mj_load.specs.Image.{Loaded, program_of}
use Rattle.mj_sessions.specs.Answers.{IsReading}
use Rattle.mj_sys.specs.Shared.{Shared, served}
use Rattle.mj_sys.specs.History.{History, state_of, log_of}
use Rattle.mj_steps.specs.declared.step.Step.{Step}
use Rattle.mj_steps.specs.declared.drive.Ending.{Ending}
use Rattle.mj_steps.specs.declared.drive.Ending.TheVariants as endings
use Rattle.mj_steps.specs.Driven.{ByList}
use Rattle.mj_core.specs.Gives.{Waits}
use Rattle.mj_core.specs.Having.{IsQuiet}
use Rattle.mj_core.specs.Runs.{start_in}
use Rattle.mj_core.specs.Shown.{AtAsk, Shown, begun}
use Rattle.mj_run.specs.Stepping.{StepsAs}
use Rattle.mj_explore.specs.declared.goals.Goal.{Goal}
use Rattle.mj_explore.specs.declared.goals.Goal.TheVariants as goals
use Rattle.mj_explore.specs.declared.goals.Finding.{Finding}
use Rattle.mj_explore.specs.declared.goals.Finding.TheVariants as findings
use Rattle.mj_judge.specs.declared.conditions.Verdict.{Verdict}
use Rattle.mj_judge.specs.declared.conditions.Verdict.TheVariants as verdicts
use Rattle.mj_judge.specs.declared.marks.Mark.TheVariants as marks
use Rattle.mj_explore.specs.declared.fates.Fate.{Fate}
use Rattle.mj_explore.specs.declared.fates.Fate.TheVariants as fates
use Rattle.mj_explore.specs.declared.ends.End.{End}
use Rattle.mj_explore.specs.declared.exploring.Tally.{Tally}
use Rattle.mj_judge.specs.Endings.{is_for_memory}
use Rattle.mj_judge.specs.Judged.{by_memory, IsJudged}
use Rattle.mj_judge.specs.Marks.{bears, is_over}
use Rattle.mj_explore.specs.Ends.{IsNoted, end_text, different, often, texts_of}
use Rattle.mj_script.specs.Scripts.{Scripted, IsImageOf, opening_in}

-- A job waits for ever, as long as no other goes on: it waits with what it asks, which has no timeout. That is served by what all jobs share, which gives
-- nothing for it now; or it reads from a device, whose session is open and has no rest of a line left. What the device would give then stands in no history.
abbrev pub IsHeld : Program → Shared → History → ℕ → Type 0
IsHeld program opening history job =
    (row : Row) × (at : AtAsk) × (row_at (state_of opening history).rows job ≡ Some row) × Waits program (start_in job row.start) (log_of job history) at
    × (timeout_of at.ask ≡ None)
    × (((is_shared at.ask ≡ true) × (served (state_of opening history) job at.ask false ≡ None)) ⊎ (IsReading at.ask × IsQuiet (log_of job history) at.ask))

-- not all jobs have ended, and each that hasn't waits for ever
abbrev pub IsStuck : Program → Shared → History → Type 0
IsStuck program opening history =
    (is_over opening history ≡ false) × ((job : ℕ) → IsLive (state_of opening history).rows job → IsHeld program opening history job)

-- all jobs have ended, and over the globals that they left an expression comes to this
abbrev pub EndsJudged : Scripted → Verdict → Shared → History → Type 0
EndsJudged condition verdict opening history =
    (is_over opening history ≡ true) × IsJudged condition (opening_in condition (state_of opening history).globals) verdict

-- what an expression comes to that is found so: it is untrue, or it faults
abbrev pub found_verdict : Finding → Verdict
found_verdict findings.Sought = verdicts.Untrue
found_verdict (findings.Faulty fault) = verdicts.Faults fault

-- that is what is looked for, and no expression faults
abbrev pub IsSought : Finding → Type 0 → Type 0
IsSought findings.Sought shown = shown
IsSought (findings.Faulty fault) shown = ⊥

-- a history shows what is looked for, in this way
abbrev pub Shows : Goal → Finding → Program → Shared → History → Type 0
Shows goals.Fault finding program opening history = IsSought finding (0 < count_by (bears marks.Fault) history)
Shows goals.Stuck finding program opening history = IsSought finding (IsStuck program opening history)
Shows goals.Clash finding program opening history = IsSought finding (0 < count_by (bears marks.Clash) history)
Shows (goals.False condition) finding program opening history = EndsJudged condition (found_verdict finding) opening history

-- and so if something is looked for
abbrev pub IsShownFor : Option Goal → Finding → Program → Shared → History → Type 0
IsShownFor None finding program opening history = ⊥
IsShownFor (Some goal) finding program opening history = Shows goal finding program opening history

-- These steps were made, one after the other, on a core of the script's routines of which nothing was asked yet, and left it so.
abbrev pub AreMade : Scripted → Shared → List Step → Ending → Shown → Type 0
AreMade script opening steps ending core =
    (image : Loaded) × IsImageOf script.sources image × ByList (StepsAs by_memory opening) 0 steps (begun image) ending core

-- They were all made so, and what they left shows what is looked for, in this way.
abbrev pub IsFound : Scripted → Goal → Finding → Shared → List Step → Type 0
IsFound script goal finding opening steps =
    (core : Shown) × AreMade script opening steps endings.Over core × Shows goal finding (program_of core.image) opening core.history

-- and so if something is looked for
abbrev pub IsFoundFor : Scripted → Option Goal → Finding → Shared → List Step → Type 0
IsFoundFor script None finding opening steps = ⊥
IsFoundFor script (Some goal) finding opening steps = IsFound script goal finding opening steps

-- what has become of the jobs of a run
abbrev pub IsFateOf : Fate → Program → Shared → History → Type 0
IsFateOf fates.Over program opening history = is_over opening history ≡ true
IsFateOf fates.Stuck program opening history = IsStuck program opening history
IsFateOf fates.Stopped program opening history = is_over opening history ≡ false

-- a run that was made: what was asked and told, and what became of its jobs
pub record Ran : Type 0 where
  pub history : History
  pub fate : Fate

-- steps leave it, made so, and it isn't for want of memory that there are no more
pub record IsRan (script : Scripted) (opening : Shared) (ran : Ran) : Type 0 where
  pub steps : List Step
  pub ending : Ending
  pub core : Shown
  pub made : AreMade script opening steps ending core
  pub granted : is_for_memory ending ≡ false
  pub left : core.history ≡ ran.history
  pub fate : IsFateOf ran.fate (program_of core.image) opening ran.history

-- it shows what is looked for, in this way
abbrev pub IsRanShowing : Scripted → Shared → Option Goal → Finding → Ran → Type 0
IsRanShowing script opening goal finding ran =
    (is : IsRan script opening ran) × IsShownFor goal finding (program_of is.core.image) opening ran.history

-- the last of these does
abbrev pub IsLastShowing : Scripted → Shared → List Ran → Option Goal → Finding → Type 0
IsLastShowing script opening rans goal finding =
    (before : List Ran) × (ran : Ran) × (rans ≡ before ++ ran ∷ []) × IsRanShowing script opening goal finding ran

-- in a run a job ended by a fault
abbrev pub has_faulted : Ran → Bool
has_faulted ran = nat_lt 0 (count_by (bears marks.Fault) ran.history)

-- it got stuck
abbrev pub is_fate_stuck : Fate → Bool
is_fate_stuck fates.Stuck = true
is_fate_stuck _ = false

-- it was stopped
abbrev pub is_fate_stopped : Fate → Bool
is_fate_stopped fates.Stopped = true
is_fate_stopped _ = false

-- how many of these came to what
pub record AreTallied (rans : List Ran) (tally : Tally) : Type 0 where
  pub faulted : tally.faulted ≡ count_by has_faulted rans
  pub stuck : tally.stuck ≡ count_by (λ ran. is_fate_stuck ran.fate) rans
  pub stopped : tally.stopped ≡ count_by (λ ran. is_fate_stopped ran.fate) rans

-- the ends of these
abbrev pub ends_in : Shared → List Ran → List (List ℕ)
ends_in opening rans = map (λ ran. end_text opening ran.history) rans

-- So many runs were made. These are their different ends, each with how many runs had it, and so many came to what. If something is found, the last of them
-- shows what is looked for, in this way.
pub record WereMade (script : Scripted) (opening : Shared) (runs : ℕ) (ends : List End) (tally : Tally) (goal : Option Goal) (finding : Option Finding) : Type 0 where
  pub rans : List Ran
  pub each : All (IsRan script opening) rans
  pub count : runs ≡ length rans
  pub texts : texts_of ends ≡ different (ends_in opening rans)
  pub often_had : (text : List ℕ) → often ends text ≡ min (count_by (λ had. bytes_eq had text) (ends_in opening rans)) (2 ^ 32 - 1)
  pub tallied : AreTallied rans tally
  pub last : IfSome finding (IsLastShowing script opening rans goal)

-- One run was made, which shows what is looked for in this way, if it does, in which a job faulted or not, and of whose jobs this became; and its end was noted.
pub record IsCome (script : Scripted) (opening : Shared) (goal : Option Goal) (shown : Option Finding) (faulted : Bool) (fate : Fate) (old new : List End) : Type 0 where
  pub ran : Ran
  pub is : IsRan script opening ran
  pub shows : IfSome shown (λ finding. IsShownFor goal finding (program_of is.core.image) opening ran.history)
  pub faults : faulted ≡ has_faulted ran
  pub becomes : fate ≡ ran.fate
  pub noted : IsNoted (end_text opening ran.history) old new
