use Rattle.std.proofs.Common.{◌≡◌, take}
use Rattle.mj_subs.specs.Collation.{name_cmp}
use Rattle.mj_tree.specs.Undo.{undone}
use Rattle.mj_globs.specs.Changes.{are_to}
use Rattle.mj_globs.specs.Parts.{all_given}
use Rattle.mj_globs.specs.Stamps.{Rises, KeepsStamps}
use Rattle.mj_globs.proofs.all.give_all.Given as goal

-- the store holds what the changes so far give, and the log leads back
abbrev pub invariant-loop-change : goal.invariant-loop-change
invariant-loop-change l = record {
  content : l.globals.content ≡ all_given l.fn.globals.content (take l.change-index l.changes);
  before : undone name_cmp l.log.items l.globals.content ≡ undone name_cmp l.fn.log.items l.fn.globals.content;
  stamps : Rises l.fn.globals l.globals;
  others : KeepsStamps (are_to l.changes) l.fn.globals.stamps l.globals.stamps;
}
