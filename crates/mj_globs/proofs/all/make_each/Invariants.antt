use Rattle.std.proofs.Common.{◌≡◌, take}
use Rattle.mj_globs.specs.Changes.{after_changes}
use Rattle.mj_globs.proofs.all.make_each.Given as goal

abbrev pub invariant-loop-change : goal.invariant-loop-change
invariant-loop-change l = l.globals.content ≡ after_changes l.fn.globals.content (take l.change-index l.changes)
