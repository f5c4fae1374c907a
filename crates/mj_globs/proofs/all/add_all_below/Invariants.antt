use Rattle.std.proofs.Common.{◌≡◌, take}
use Rattle.mj_globs.specs.Parts.{with_all_below}
use Rattle.mj_globs.proofs.all.add_all_below.Given as goal

abbrev pub invariant-loop-kill : goal.invariant-loop-kill
invariant-loop-kill l = l.names.items ≡ with_all_below l.alone.content l.globals.content l.fn.names.items (take l.kill-index l.killed)
