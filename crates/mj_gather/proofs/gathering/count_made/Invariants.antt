use Rattle.std.proofs.Common.{◌≡◌, ◌≤◌, ◌+◌, drop}
use Rattle.mj_gather.specs.Found.{made_in}
use Rattle.mj_gather.proofs.gathering.count_made.Given as goal

abbrev pub invariant-loop-event : goal.invariant-loop-event
invariant-loop-event l = (l.count + made_in (drop l.event-index l.history) ≡ made_in l.history) × (l.count ≤ l.event-index)
