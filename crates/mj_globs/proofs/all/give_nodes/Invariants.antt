use Rattle.std.proofs.Common.{◌≡◌, take}
use Rattle.mj_subs.specs.Collation.{name_cmp}
use Rattle.mj_tree.specs.Undo.{undone}
use Rattle.mj_store.specs.Questions.{same_word}
use Rattle.mj_store.specs.Changes.{after_put}
use Rattle.mj_globs.specs.Stamps.{Rises, KeepsStamps}
use Rattle.mj_globs.proofs.all.give_nodes.Given as goal

-- the store holds what the nodes so far give, and the log leads back
abbrev pub invariant-loop-node : goal.invariant-loop-node
invariant-loop-node l = record {
  content : l.globals.content ≡ after_put l.fn.globals.content l.name (take l.node-index l.nodes);
  before : undone name_cmp l.log.items l.globals.content ≡ undone name_cmp l.fn.log.items l.fn.globals.content;
  stamps : Rises l.fn.globals l.globals;
  others : KeepsStamps (same_word l.name) l.fn.globals.stamps l.globals.stamps;
}
