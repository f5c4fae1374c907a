-- What a debugger keeps.
use Rattle.std.specs.Prelude.{ℕ, List, [], ◌∷◌, ◌++◌, Bool, true, false, not, Option, Result, Ok, Err, if◌then◌else◌}
use Rattle.std.specs.List.{filter, list_any}
use Rattle.mj_subs.specs.Name.{Name, names_eq}
use Rattle.mj_ask.specs.Started.{Started}
use Rattle.mj_gfile.specs.Spelling.{listed_name}
use Rattle.mj_steps.specs.Steps.{line_of}
use Rattle.mj_steps.specs.declared.step.Step.{Step}
use Rattle.mj_steps.specs.declared.step.Way.TheVariants as ways
use Rattle.mj_core.specs.declared.seen.Seen.{Seen}
use Rattle.mj_core.specs.declared.seen.Seen.TheVariants as seen
use Rattle.mj_debug.specs.declared.debugger.WalkRefusal.{WalkRefusal}
use Rattle.mj_debug.specs.declared.debugger.Gone.{Gone}
use Rattle.mj_debug.specs.declared.debugger.Gone.TheVariants as gones
use Rattle.mj_debug.specs.Walks.{Walk}
use Rattle.mj_dialogue.specs.Lines.{lined}
use Rattle.mj_guide.specs.declared.notes.Notes.{Notes}

-- the lines of steps, as a file of steps has them
abbrev pub steps_bytes : List Step → List ℕ
steps_bytes [] = []
steps_bytes (step ∷ steps) = lined (line_of step) ++ steps_bytes steps

-- the lines of names that are watched, as a listing has them
abbrev pub watched_lines : List Name → List ℕ
watched_lines [] = []
watched_lines (name ∷ names) = lined (listed_name name) ++ watched_lines names

-- What a request finds and leaves: the debugger; how the first jobs start, the steps that are kept, and the names that are watched; and what was written.
pub record Situation : Type 0 where
  pub walk : Walk
  pub starts : List Started
  pub steps : List Step
  pub watched : List Name
  pub written : Option (List ℕ)

abbrev pub situation : Walk → Notes → Option (List ℕ) → Situation
situation walk notes written =
    record { walk = walk; starts = notes.starts.items; steps = notes.steps.items; watched = notes.watched.items; written = written }

-- a step did something: it made an event, or its job went on for all turns of a step
abbrev pub is_kept : Seen → Bool
is_kept (seen.Event at) = true
is_kept (seen.Busy holder held) = false
is_kept seen.NotYet = false
is_kept seen.Unfit = false
is_kept seen.Ran = true
is_kept seen.Ended = false

-- the step, if it did something
abbrev pub kept : Step → Seen → List Step
kept step what = if is_kept what then step ∷ [] else []

-- what is kept of a step
abbrev pub kept_of : Step → Result Seen WalkRefusal → List Step
kept_of step (Ok what) = kept step what
kept_of step (Err why) = []

-- and of a step in turn
abbrev pub kept_in_turn : Gone → List Step
kept_in_turn gones.NotAtEnd = []
kept_in_turn gones.Over = []
kept_in_turn (gones.At job routine line) = []
kept_in_turn (gones.Step job (Ok what)) = kept (record { job = job; way = ways.Go }) what
kept_in_turn (gones.Step job (Err why)) = []

-- the names with one more, which stands there once
abbrev pub with_name : List Name → Name → List Name
with_name names name = if list_any (λ own. names_eq own name) names then names else names ++ name ∷ []

-- the names without one
abbrev pub without_name : List Name → Name → List Name
without_name names name = filter (λ own. not (names_eq own name)) names
