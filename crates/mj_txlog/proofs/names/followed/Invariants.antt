use Rattle.std.proofs.Common.{◌≡◌, ◌++◌, take}
use Rattle.mj_txlog.proofs.names.followed.Given as goal

abbrev pub invariant-loop-sub : goal.invariant-loop-sub
invariant-loop-sub l = l.subscripts ≡ l.name.subscripts ++ take l.sub-index l.sub-items
