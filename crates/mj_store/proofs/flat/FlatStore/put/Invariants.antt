use Rattle.std.proofs.Common.{◌≡◌, take}
use Rattle.mj_store.specs.Changes.{after_put}
use Rattle.mj_store.proofs.flat.FlatStore.put.Given as goal

-- the copy holds what the nodes so far leave
abbrev pub invariant-loop-node : goal.invariant-loop-node
invariant-loop-node l = l.changed ≡ after_put l.fn.self l.fn.name (take l.node-index l.node-items)
