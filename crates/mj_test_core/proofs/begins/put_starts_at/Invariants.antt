use Rattle.std.proofs.Common.{◌≡◌, true}
use Rattle.mj_sys.specs.Opening.{are_bare}
use Rattle.mj_test_core.proofs.begins.put_starts_at.Given as goal

-- those so far give no values
abbrev pub invariant-loop-label : goal.invariant-loop-label
invariant-loop-label l = are_bare l.starts.items ≡ true
