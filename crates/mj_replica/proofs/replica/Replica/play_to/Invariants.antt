use Rattle.std.proofs.Common.{◌≡◌}
use Rattle.mj_replica.specs.Replicas.{IsReplica}
use Rattle.mj_replica.proofs.replica.Replica.play_to.Given as goal

-- the events so far were played
abbrev pub invariant-loop : goal.invariant-loop
invariant-loop g l = IsReplica l.core.image g.O.Opening.opening l.core.history l.self × (l.self.made ≡ l.counter)
