-- The spelling of the commands of the debugger. Byte 58 is `:`.
use Rattle.std.specs.Prelude.{◌≡◌, ℕ, ◌<◌, ◌≤◌, ◌^◌, ◌==◌, Bool, true, List, ◌∷◌, ◌++◌, decimal, codes}
use Rattle.mj_subs.specs.Name.{is_word}
use Rattle.mj_steps.specs.Steps.{IsJob, IsStep, line_of}
use Rattle.mj_dialogue.specs.declared.command.Command.{Command}
use Rattle.mj_dialogue.specs.declared.command.Command.TheVariants as commands

-- the byte between a routine and a line of it
abbrev pub is_colon : ℕ → Bool
is_colon byte = byte == 58

-- a word, and a number from 1
abbrev pub IsSpot : List ℕ → ℕ → Type 0
IsSpot routine line = (is_word routine ≡ true) × (1 ≤ line) × (line < 2 ^ 32)

-- a routine and the number of a line of it
abbrev pub spot_text : List ℕ → ℕ → List ℕ
spot_text routine line = routine ++ 58 ∷ decimal line

-- the line of a command
abbrev pub command_text : Command → List ℕ
command_text (commands.Step step) = codes "s " ++ line_of step
command_text (commands.Go count) = codes "go " ++ decimal count
command_text (commands.Set routine line) = codes "b " ++ spot_text routine line
command_text (commands.Clear routine line) = codes "d " ++ spot_text routine line
command_text commands.Back = codes "back"
command_text commands.Forward = codes "fwd"
command_text (commands.Frames job) = codes "f " ++ decimal job
command_text (commands.Locals job) = codes "v " ++ decimal job
command_text commands.Locks = codes "k"
command_text commands.Globals = codes "g"
command_text commands.Quit = codes "q"

-- a command that can be given: its job is one that there may be, its count and its line are numbers that can be kept, and its routine is a word
abbrev pub IsCommand : Command → Type 0
IsCommand (commands.Step step) = IsStep step
IsCommand (commands.Go count) = count < 2 ^ 32
IsCommand (commands.Set routine line) = IsSpot routine line
IsCommand (commands.Clear routine line) = IsSpot routine line
IsCommand (commands.Frames job) = IsJob job
IsCommand (commands.Locals job) = IsJob job
IsCommand _ = Unit {0}

-- a command that is a word alone
abbrev pub IsLone : Command → Type 0
IsLone commands.Back = Unit {0}
IsLone commands.Forward = Unit {0}
IsLone commands.Locks = Unit {0}
IsLone commands.Globals = Unit {0}
IsLone commands.Quit = Unit {0}
IsLone _ = ⊥

-- a command with a number
abbrev pub IsNumbered : Command → Type 0
IsNumbered (commands.Step step) = Unit {0}
IsNumbered (commands.Go count) = Unit {0}
IsNumbered (commands.Frames job) = Unit {0}
IsNumbered (commands.Locals job) = Unit {0}
IsNumbered _ = ⊥
