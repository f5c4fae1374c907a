use Rattle.std.proofs.Common.{drop, take}
use Rattle.mj_inspect.specs.Waits.{started_in}
use Rattle.mj_inspect.specs.Stands.{PutsLeft}
use Rattle.mj_inspect.proofs.waiting.put_started.Given as goal

-- the jobs that the events left start are to come
abbrev pub invariant-loop-at : goal.invariant-loop-at
invariant-loop-at g l =
    PutsLeft l.core.image l.core.history l.place (started_in (take l.place l.core.history)) (started_in (drop l.at (take l.place l.core.history))) l.fn.bytes.items l.bytes.items
