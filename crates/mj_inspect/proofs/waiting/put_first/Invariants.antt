use Rattle.std.proofs.Common.{◌+◌, drop}
use Rattle.mj_inspect.specs.Waits.{numbered}
use Rattle.mj_inspect.specs.Stands.{PutsLeft}
use Rattle.mj_inspect.proofs.waiting.put_first.Given as goal

-- the jobs that are left are numbered on
abbrev pub invariant-loop-start : goal.invariant-loop-start
invariant-loop-start g l =
    PutsLeft l.core.image l.core.history l.place (numbered 1 l.starts) (numbered (l.job + 1) (drop l.start-index l.starts)) l.fn.bytes.items l.bytes.items
