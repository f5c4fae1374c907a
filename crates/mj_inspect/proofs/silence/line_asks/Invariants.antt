use Rattle.std.proofs.Common.{◌≡◌, false, drop}
use Rattle.mj_inspect.specs.Asks.{are_asking}
use Rattle.mj_inspect.proofs.silence.line_asks.Given as goal

-- what is left of the instructions decides
abbrev pub invariant-loop-instr : goal.invariant-loop-instr
invariant-loop-instr l = are_asking l.fn.line l.here (drop l.instr-index l.instrs) ≡ are_asking l.fn.line false l.fn.instrs
