use Rattle.std.proofs.Common.{◌≡◌, suc, ◌-◌}
use Rattle.mj_explain.specs.Clashes.{counted_in}
use Rattle.mj_explain.proofs.clashes.access_of.Given as goal

abbrev pub invariant-loop-place : goal.invariant-loop-place
invariant-loop-place l = l.count ≡ counted_in l.events l.job (suc l.begin) (l.place - suc l.begin)
