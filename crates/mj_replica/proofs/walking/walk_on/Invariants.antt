use Rattle.std.proofs.Common.{take}
use Rattle.mj_load.specs.Image.{program_of}
use Rattle.mj_replica.specs.Replays.{history_of}
use Rattle.mj_replica.specs.Playing.{AreStaged}
use Rattle.mj_replica.specs.Walks.{AreKnown}
use Rattle.mj_replica.proofs.walking.walk_on.Given as goal

-- the events so far are made, and what is sought of their places is known
abbrev pub invariant-loop-at : goal.invariant-loop-at
invariant-loop-at g l =
    AreStaged l.fn.image g.O.Opening.opening (take l.at (history_of l.fn.events)) l.system l.jobs.items
    × AreKnown (program_of l.fn.image) g.O.Opening.opening l.fn.what (take l.at l.fn.events) l.found.items
