use Rattle.std.proofs.Common.{◌≡◌}
use Rattle.mj_files.specs.Named.{with_principals}
use Rattle.mj_script.proofs.script.add_principals.Given as goal

-- those that are added
abbrev pub invariant-principals : goal.invariant-principals
invariant-principals l = l.pool ≡ with_principals l.counter
