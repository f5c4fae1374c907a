use Rattle.std.proofs.Common.{◌≡◌, ◌++◌}
use Rattle.std.specs.List.{repeat}
use Rattle.mj_strfn.proofs.pieces.assembled_short.Given as goal

abbrev pub invariant-loop-time : goal.invariant-loop-time
invariant-loop-time l = l.room ≡ l.front ++ repeat l._time l.filling
