use Rattle.std.proofs.Common.{◌≡◌, drop}
use Rattle.mj_faults.specs.Told.{started_in}
use Rattle.mj_faults.proofs.history.started_in.Given as goal

-- no event up to here starts the job
abbrev pub invariant-events : goal.invariant-events
invariant-events g l = started_in l.job (g.H.Events.history l.told) ≡ started_in l.job (drop l.at (g.H.Events.history l.told))
