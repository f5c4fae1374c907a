use Rattle.std.proofs.Common.{◌≡◌, take}
use Rattle.mj_globs.specs.Parts.{without_each, are_of}
use Rattle.mj_globs.specs.Stamps.{Rises, KeepsStamps}
use Rattle.mj_globs.proofs.all.take_each.Given as goal

abbrev pub invariant-loop-name : goal.invariant-loop-name
invariant-loop-name l = record {
  content : l.globals.content ≡ without_each l.fn.globals.content (take l.name-index l.names);
  stamps : Rises l.fn.globals l.globals;
  others : KeepsStamps (are_of l.names) l.fn.globals.stamps l.globals.stamps;
}
