use Rattle.std.proofs.Common.{◌≡◌, ℕ, ◌<◌, false, slice_get}
use Rattle.mj_report.specs.Faults.{event_faults}
use Rattle.mj_report.proofs.faults.has_faulted.Given as goal

-- no event up to here is a fault
abbrev pub invariant-events : goal.invariant-events
invariant-events g l = (k : ℕ) → k < l.at → event_faults (slice_get (g.H.Events.history l.told) k) ≡ false
