-- Which commands are BREAK, at which a debugger stops.
use Rattle.std.specs.Prelude.{Bool, true, false}
use Rattle.std.specs.List.{list_any}
use Rattle.mj_ast.specs.Syntax.{Command, Set, Write, Halt, Hang, Job, Lock, Kill, Merge, If, Else, For, Forever, Do, Goto, Quit, New, OpenDevice, UseDevice, CloseDevice, Read, TStart, TCommit, TRestart, TRollback, Break, Line}

-- whether a command is BREAK
abbrev pub is_break : Command → Bool
is_break (Set arguments) = false
is_break (Write arguments) = false
is_break Halt = false
is_break (Hang arguments) = false
is_break (Job arguments) = false
is_break (Lock arguments) = false
is_break (Kill arguments) = false
is_break (Merge arguments) = false
is_break (If conditions) = false
is_break Else = false
is_break (For v ranges) = false
is_break Forever = false
is_break (Do arguments) = false
is_break (Goto arguments) = false
is_break (Quit value) = false
is_break (New arguments) = false
is_break (OpenDevice arguments) = false
is_break (UseDevice arguments) = false
is_break (CloseDevice arguments) = false
is_break (Read arguments) = false
is_break (TStart argument) = false
is_break TCommit = false
is_break TRestart = false
is_break TRollback = false
is_break Break = true

-- whether one of a line's commands is BREAK
abbrev pub holds_break : Line → Bool
holds_break line = list_any (λ step. is_break step.command) line.steps
