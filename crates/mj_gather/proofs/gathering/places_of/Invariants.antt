use Rattle.std.proofs.Common.{◌≡◌}
use Rattle.mj_core.specs.Runs.{places_lent}
use Rattle.mj_gather.specs.Lent.{places_from}
use Rattle.mj_gather.proofs.gathering.places_of.Given as goal

abbrev pub invariant-loop-at : goal.invariant-loop-at
invariant-loop-at l = places_lent l.places.items ≡ places_from l.rans 1 l.at
