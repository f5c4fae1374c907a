-- The spelling of a file of steps.
use Rattle.std.specs.Prelude.{◌≡◌, ℕ, ◌+◌, ◌≤◌, ◌==◌, Bool, true, false, List, [], ◌∷◌, ◌++◌, length, map, All, decimal, codes}
use Rattle.mj_steps.specs.declared.step.TheConstants.{JOBS_LIMIT}
use Rattle.mj_steps.specs.declared.step.Step.{Step}
use Rattle.mj_steps.specs.declared.step.Way.{Way}
use Rattle.mj_steps.specs.declared.step.Way.TheVariants.{Go, Late}
use Rattle.mj_steps.specs.declared.file.StepsError.{StepsError}
use Rattle.mj_steps.specs.declared.file.StepsError.TheVariants as errors

-- a byte that ends a line
abbrev pub is_line_end : ℕ → Bool
is_line_end byte = byte == 10

-- with a byte in front of the first line
abbrev pub with_front : ℕ → List (List ℕ) → List (List ℕ)
with_front b [] = (b ∷ []) ∷ []
with_front b (l ∷ ls) = (b ∷ l) ∷ ls

-- the lines of a file: a byte 10 ends a line, and the last one may lack it; a file of no bytes has no line
abbrev pub lines_of : List ℕ → List (List ℕ)
lines_of [] = []
lines_of (b ∷ bs) = elim (is_line_end b) [ true ↦ [] ∷ lines_of bs | false ↦ with_front b (lines_of bs) ]

-- the numbers of jobs
abbrev pub IsJob : ℕ → Type 0
IsJob job = (1 ≤ job) × (job ≤ JOBS_LIMIT)

-- a step of a job that there may be
abbrev pub IsStep : Step → Type 0
IsStep step = IsJob step.job

-- what says how a job is stepped, behind its number
abbrev pub mark_of : Way → List ℕ
mark_of Go = []
mark_of Late = codes " late"

-- the line of a step: the number of the job in decimal, and ` late` behind it where the step is late
abbrev pub line_of : Step → List ℕ
line_of step = decimal step.job ++ mark_of step.way

-- the lines of the file are those of these steps
pub record AreSpelled (bytes : List ℕ) (steps : List Step) : Type 0 where
  pub lines : lines_of bytes ≡ map line_of steps
  pub jobs : All IsStep steps

-- the line of this number, which counts from 1, is the first that is no step's
pub record IsFirst (bytes : List ℕ) (number : ℕ) : Type 0 where
  pub before : List Step
  pub line : List ℕ
  pub behind : List (List ℕ)
  pub cut : lines_of bytes ≡ map line_of before ++ line ∷ behind
  pub jobs : All IsStep before
  pub place : number ≡ length before + 1
  pub none : (step : Step) → IsStep step → ¬ (line ≡ line_of step)

-- why a file is refused; want of memory says nothing
abbrev pub IsStepsFileRefused : List ℕ → StepsError → Type 0
IsStepsFileRefused bytes (errors.Line line) = IsFirst bytes line
IsStepsFileRefused bytes errors.Memory = Unit {0}
