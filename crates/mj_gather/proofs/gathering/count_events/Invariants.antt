use Rattle.std.proofs.Common.{◌≡◌, ◌≤◌, ◌+◌, drop}
use Rattle.mj_sys.specs.History.{events_of}
use Rattle.mj_gather.proofs.gathering.count_events.Given as goal

abbrev pub invariant-loop-event : goal.invariant-loop-event
invariant-loop-event l = (l.count + events_of l.job (drop l.event-index l.history) ≡ events_of l.job l.history) × (l.count ≤ l.event-index)
