use Rattle.std.proofs.Common.{◌≡◌, ◌++◌, ◌-◌, ◌<◌}
use Rattle.mj_explain.specs.Landings.{landed_in}
use Rattle.mj_explain.proofs.landings.add_landed.Given as goal

-- what was added so far, and that nothing is where the end lies before the start
abbrev pub invariant-loop-write : goal.invariant-loop-write
invariant-loop-write l =
    (l.landings.items ≡ l.fn.landings.items ++ landed_in l.events l.job l.made l.from (l.write - l.from)) × (l.made < l.from → l.write ≡ l.from)
