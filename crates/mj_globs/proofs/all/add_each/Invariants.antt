use Rattle.std.proofs.Common.{◌≡◌, take}
use Rattle.mj_globs.specs.Parts.{with_below}
use Rattle.mj_globs.proofs.all.add_each.Given as goal

abbrev pub invariant-loop-node : goal.invariant-loop-node
invariant-loop-node l = l.names.items ≡ with_below l.alone.content l.name l.fn.names.items (take l.node-index l.nodes)
