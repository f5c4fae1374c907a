use Rattle.std.proofs.Common.{◌≡◌, take, []}
use Rattle.mj_txlog.proofs.Kept.{kept}
use Rattle.mj_txlog.proofs.below.seen_below.Given as goal

-- what is kept of the nodes so far
abbrev pub invariant-loop-node : goal.invariant-loop-node
invariant-loop-node l = l.below ≡ kept l.own.gone l.name [] (take l.node-index l.node-items)
