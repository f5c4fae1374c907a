use Rattle.std.proofs.Common.{◌≡◌, take}
use Rattle.mj_replay.proofs.migrating.copy_events.Given as goal

-- those so far were copied
abbrev pub invariant-loop-event : goal.invariant-loop-event
invariant-loop-event l = l.copies.items ≡ take l.event-index l.events
