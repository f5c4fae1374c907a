-- What a turn of the machine says of the run.
use Rattle.std.specs.Prelude.{List, Option}
use Rattle.mj_ask.specs.declared.ask.Reply.{Reply}
use Rattle.mj_pcode.specs.declared.instr.Unit.{Unit}
use Rattle.mj_machine.specs.declared.machine.Machine.{Machine}
use Rattle.mj_machine.specs.declared.machine.TurnOutcome.{TurnOutcome}
use Rattle.mj_machine.specs.Standing.{Steps}
use Rattle.mj_machine.specs.Kept.{standing, turn_kind, left_of}
use Rattle.mj_turn.specs.declared.start.Start.{Start}
use Rattle.mj_turn.specs.Starts.{start_of}

-- a turn of a job that runs these units and starts so, with a reply at hand or without one
abbrev pub Turns : List Unit → Start → Machine → Option Reply → TurnOutcome → Machine → Type 0
Turns units start old given step new = Steps (record { units = units; start = start_of start }) (standing old given) (turn_kind step) (standing new (left_of step given))
