use Rattle.std.proofs.Common.{◌≡◌, ◌+◌, length}
use Rattle.mj_replica.specs.Replicas.{IsReplica}
use Rattle.mj_replica.specs.Views.{AreViews}
use Rattle.mj_replica.proofs.filming.film.Given as goal

-- the events so far were played, and the next view is that of the place
abbrev pub invariant-loop : goal.invariant-loop
invariant-loop g l =
    IsReplica l.core.image g.O.Opening.opening l.core.history l.replica × (l.replica.made ≡ l.counter) × AreViews l.core.image g.O.Opening.opening l.core.history l.views
    × (l.views.first + length l.views.views ≡ l.counter)
