use Rattle.std.proofs.Common.{◌≡◌, take}
use Rattle.std.specs.Cmp.Lexicographic.{slice_cmp}
use Rattle.mj_subs.specs.Collation.{subscript_cmp}
use Rattle.mj_tree.specs.Nest.{put_behind}
use Rattle.mj_tree.specs.Undo.{undone}
use Rattle.mj_tree.proofs.tree.Tree.put_all.Given as goal

-- the tree holds what the nodes so far leave, and the log leads back
abbrev pub invariant-loop-node : goal.invariant-loop-node
invariant-loop-node l = record {
  content : l.self ≡ put_behind subscript_cmp l.path (take l.node-index l.nodes) l.fn.self;
  before : undone (slice_cmp subscript_cmp) l.log.items l.self ≡ undone (slice_cmp subscript_cmp) l.fn.log.items l.fn.self;
}
