use Rattle.std.proofs.Common.{◌≡◌, take}
use Rattle.mj_subs.proofs.subs.Subs.try_clone.Given as goal

abbrev pub invariant-loop-sub : goal.invariant-loop-sub
invariant-loop-sub l = l.kept.items ≡ take l.sub-index l.sub-items
