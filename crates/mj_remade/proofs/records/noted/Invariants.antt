use Rattle.std.proofs.Common.{◌≡◌, take}
use Rattle.mj_replica.specs.Replays.{history_of}
use Rattle.mj_remade.proofs.records.noted.Given as goal

-- the events so far
abbrev pub invariant-loop-at : goal.invariant-loop-at
invariant-loop-at g l = history_of l.events.items ≡ take l.at l.core.history
