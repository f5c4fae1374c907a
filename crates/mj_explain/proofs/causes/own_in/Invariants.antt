use Rattle.std.proofs.Common.{◌≡◌, ◌-◌, ◌<◌}
use Rattle.mj_explain.specs.Clashes.{own_in}
use Rattle.mj_explain.proofs.causes.own_in.Given as goal

-- what was added so far, and that nothing is where the end lies before the start
abbrev pub invariant-loop-place : goal.invariant-loop-place
invariant-loop-place l = (l.own.items ≡ own_in l.events l.job l.from (l.place - l.from)) × (l.end < l.from → l.place ≡ l.from)
