use Rattle.std.proofs.Common.{◌≡◌, drop}
use Rattle.mj_inspect.specs.Asks.{is_asking}
use Rattle.mj_inspect.proofs.silence.may_ask.Given as goal

-- the routines that are left decide
abbrev pub invariant-loop-unit : goal.invariant-loop-unit
invariant-loop-unit l = is_asking (drop l.unit-index l.unit-items) l.fn.routine l.fn.line ≡ is_asking l.fn.image.units l.fn.routine l.fn.line
