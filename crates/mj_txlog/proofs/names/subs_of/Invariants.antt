use Rattle.std.proofs.Common.{◌≡◌, take}
use Rattle.mj_txlog.proofs.names.subs_of.Given as goal

abbrev pub invariant-loop-sub : goal.invariant-loop-sub
invariant-loop-sub l = l.subs ≡ take l.sub-index l.list
