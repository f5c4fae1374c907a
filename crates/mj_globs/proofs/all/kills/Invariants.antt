use Rattle.std.proofs.Common.{◌≡◌, take}
use Rattle.mj_globs.specs.Parts.{all_kills}
use Rattle.mj_globs.proofs.all.kills.Given as goal

abbrev pub invariant-loop-change : goal.invariant-loop-change
invariant-loop-change l = l.kills ≡ all_kills (take l.change-index l.changes)
