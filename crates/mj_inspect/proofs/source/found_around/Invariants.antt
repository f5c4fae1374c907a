use Rattle.std.proofs.Common.{◌≡◌, ◌++◌, drop}
use Rattle.mj_inspect.specs.Source.{around_lines}
use Rattle.mj_inspect.proofs.source.found_around.Given as goal

-- the routines that are left are to come
abbrev pub invariant-loop-source : goal.invariant-loop-source
invariant-loop-source l =
    l.bytes.items ++ around_lines (drop l.source-index l.sources) l.routine l.number ≡ around_lines l.fn.sources l.fn.routine l.fn.number
