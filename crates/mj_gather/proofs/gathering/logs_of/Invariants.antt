use Rattle.std.proofs.Common.{◌≡◌}
use Rattle.mj_gather.specs.Lent.{lent, logs_from}
use Rattle.mj_gather.proofs.gathering.logs_of.Given as goal

abbrev pub invariant-loop-at : goal.invariant-loop-at
invariant-loop-at l = lent l.logs.items ≡ logs_from l.rans 1 l.at
