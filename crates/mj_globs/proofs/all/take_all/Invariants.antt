use Rattle.std.proofs.Common.{◌≡◌, take}
use Rattle.mj_globs.specs.Changes.{are_to}
use Rattle.mj_globs.specs.Parts.{all_taken}
use Rattle.mj_globs.specs.Stamps.{Rises, KeepsStamps}
use Rattle.mj_globs.proofs.all.take_all.Given as goal

abbrev pub invariant-loop-change : goal.invariant-loop-change
invariant-loop-change l = record {
  content : l.globals.content ≡ all_taken l.fn.globals.content (take l.change-index l.changes);
  stamps : Rises l.fn.globals l.globals;
  others : KeepsStamps (are_to l.changes) l.fn.globals.stamps l.globals.stamps;
}
