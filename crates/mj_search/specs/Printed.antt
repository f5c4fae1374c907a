-- What is printed of runs by chance (this profile). Byte 10 ends a line.
use Rattle.std.specs.Prelude.{ℕ, ◌==◌, Bool, ◌&&◌, ◌||◌, if◌then◌else◌, List, [], ◌∷◌, ◌++◌, Option, None, Some, decimal, codes}
use Rattle.std.specs.Str.{bytes_eq}
use Rattle.mj_text.specs.Fault.{name_of}
use Rattle.mj_text.specs.declared.fault.Fault.{Fault}
use Rattle.mj_explore.specs.declared.exploring.Found.{Found}
use Rattle.mj_explore.specs.declared.exploring.Tally.{Tally}
use Rattle.mj_explore.specs.declared.goals.Finding.{Finding}
use Rattle.mj_explore.specs.declared.goals.Finding.TheVariants as findings

-- a word that says what is looked for, and isn't an expression
abbrev pub is_kind : List ℕ → Bool
is_kind word = bytes_eq word (codes "fault") || bytes_eq word (codes "stuck") || bytes_eq word (codes "clash")

-- what is said to be found: that word, or that an expression is untrue
abbrev pub goal_word : Option (List ℕ) → List ℕ
goal_word None = codes "untrue"
goal_word (Some word) = if is_kind word then word else codes "untrue"

-- the line on how many runs there were, and how many different ends they had
abbrev pub runs_line : ℕ → ℕ → List ℕ
runs_line runs ends = codes "runs " ++ decimal runs ++ codes ", ends " ++ decimal ends ++ 10 ∷ []

-- in no run did a job fault, and none got stuck or was stopped
abbrev pub is_untroubled : Tally → Bool
is_untroubled tally = tally.faulted == 0 && tally.stuck == 0 && tally.stopped == 0

-- the line on how many runs came to what, where some came to one of these
abbrev pub tally_line : Tally → List ℕ
tally_line tally = codes "faulted " ++ decimal tally.faulted ++ codes ", stuck " ++ decimal tally.stuck ++ codes ", stopped " ++ decimal tally.stopped ++ 10 ∷ []

abbrev pub tally_lines : Tally → List ℕ
tally_lines tally = if is_untroubled tally then [] else tally_line tally

-- the lines on how many runs there were, and what they came to
abbrev pub counts_lines : ℕ → ℕ → Tally → List ℕ
counts_lines runs ends tally = runs_line runs ends ++ tally_lines tally

-- the line on what the last run showed, and how many steps show it
abbrev pub plain_line : List ℕ → ℕ → ℕ → List ℕ
plain_line word run steps = word ++ codes " in run " ++ decimal run ++ codes ", steps " ++ decimal steps ++ 10 ∷ []

-- the same of an expression that isn't true since it faults: behind that, by what
abbrev pub faulty_line : List ℕ → List ℕ → ℕ → ℕ → List ℕ
faulty_line word name run steps = word ++ codes " in run " ++ decimal run ++ codes ", steps " ++ decimal steps ++ codes ", by " ++ name ++ 10 ∷ []

-- the one of what is found in this way
abbrev pub found_line : List ℕ → Finding → ℕ → ℕ → List ℕ
found_line word findings.Sought run steps = plain_line word run steps
found_line word (findings.Faulty fault) run steps = faulty_line word (name_of fault) run steps

-- the fault for which an expression is refused: one that it comes to in the first run
abbrev pub refusal_by : ℕ → Finding → Option Fault
refusal_by runs findings.Sought = None
refusal_by runs (findings.Faulty fault) = if runs == 1 then Some fault else None

abbrev pub refusal_of : ℕ → Option Found → Option Fault
refusal_of runs None = None
refusal_of runs (Some found) = refusal_by runs found.finding

-- the line behind the one that refuses it, by the name of the fault
abbrev pub faults_line : List ℕ → List ℕ
faults_line name = codes "    the expression faults over the globals that the first run left: " ++ name ++ 10 ∷ []

abbrev pub refusal_line : Fault → List ℕ
refusal_line fault = faults_line (name_of fault)

-- what the first run came to, behind four blanks
abbrev pub tally_hint : Tally → List ℕ
tally_hint tally = if is_untroubled tally then [] else codes "    " ++ tally_lines tally

-- both: a fault of a job may be why the expression faults
abbrev pub refusal_lines : Fault → Tally → List ℕ
refusal_lines fault tally = refusal_line fault ++ tally_hint tally
