use Rattle.std.proofs.Common.{◌≡◌, ◌++◌, take}
use Rattle.mj_tree.proofs.node.extend.Given as goal

-- those so far are added
abbrev pub invariant-loop-sub : goal.invariant-loop-sub
invariant-loop-sub l = l.list ≡ l.fn.list ++ take l.sub-index l.more
