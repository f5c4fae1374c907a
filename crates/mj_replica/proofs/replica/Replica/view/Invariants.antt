use Rattle.std.proofs.Common.{◌≡◌, take, map}
use Rattle.mj_replica.specs.Views.{stand_of_played, view_of}
use Rattle.mj_replica.proofs.replica.Replica.view.Given as goal

-- the jobs so far are in it
abbrev pub invariant-loop-played : goal.invariant-loop-played
invariant-loop-played g l = l.view ≡ record (view_of g.O.Opening.opening l.self) { jobs = map stand_of_played (take l.played-index l.self.jobs) }
