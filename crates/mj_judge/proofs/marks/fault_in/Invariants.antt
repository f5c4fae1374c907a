use Rattle.std.proofs.Common.{◌≡◌, drop}
use Rattle.mj_judge.specs.Marks.{fault_in}
use Rattle.mj_judge.proofs.marks.fault_in.Given as goal

-- no job ended by a fault up to here
abbrev pub invariant-events : goal.invariant-events
invariant-events g l = fault_in (drop l.at l.core.history) ≡ fault_in l.core.history
