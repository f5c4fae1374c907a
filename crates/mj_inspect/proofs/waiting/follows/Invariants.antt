use Rattle.std.proofs.Common.{[]}
use Rattle.mj_ask.specs.Started.{Started}
use Rattle.mj_core.specs.Runs.{start_in}
use Rattle.mj_inspect.specs.Waits.{told_before}
use Rattle.mj_inspect.specs.Stands.{IsBehind}
use Rattle.mj_inspect.proofs.waiting.follows.Given as goal

-- the job was told its replies so far
abbrev pub invariant-loop-at : goal.invariant-loop-at
invariant-loop-at g l =
    (start : Started) → IsBehind l.core.image (start_in l.number start) [] l.fn.job
    → IsBehind l.core.image (start_in l.number start) (told_before l.number l.core.history l.at) l.job
