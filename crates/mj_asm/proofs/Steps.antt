-- What falls from call to call while commands are emitted.
use Rattle.std.proofs.Common.{ℕ, ◌+◌, List, [], ◌∷◌, length}
use Rattle.mj_ast.specs.declared.routine.Command as kept_command
use Rattle.mj_ast.specs.declared.routine.Command.TheVariants as command
use Rattle.mj_ast.specs.declared.routine.LineCommand as step

-- how many conditions an IF has
abbrev pub conditions_in : kept_command.Command → ℕ
conditions_in (command.Set v) = 0
conditions_in (command.Write v) = 0
conditions_in command.Halt = 0
conditions_in (command.Hang v) = 0
conditions_in (command.Job v) = 0
conditions_in (command.Lock v) = 0
conditions_in (command.Open v) = 0
conditions_in (command.Use v) = 0
conditions_in (command.Close v) = 0
conditions_in (command.Read v) = 0
conditions_in (command.Kill v) = 0
conditions_in (command.Merge v) = 0
conditions_in (command.If v) = length v.items
conditions_in command.Else = 0
conditions_in (command.For x v) = 0
conditions_in command.Forever = 0
conditions_in (command.Do v) = 0
conditions_in (command.Goto v) = 0
conditions_in (command.Quit v) = 0
conditions_in (command.New v) = 0
conditions_in (command.TStart v) = 0
conditions_in command.TCommit = 0
conditions_in command.TRestart = 0
conditions_in command.TRollback = 0
conditions_in command.Break = 0

-- commands, each for 3, and the conditions of each IF
abbrev pub weight : List step.LineCommand → ℕ
weight [] = 0
weight (s ∷ steps) = weight steps + conditions_in s.command + 3
