use Rattle.std.proofs.Common.{◌≡◌, ◌++◌, drop}
use Rattle.mj_search.specs.Told.{each_end}
use Rattle.mj_search.proofs.told.put_each.Given as goal

-- what is left goes behind what is put
abbrev pub invariant-ends : goal.invariant-ends
invariant-ends l = l.bytes.items ++ each_end (drop l.end-index l.ends) ≡ l.fn.bytes.items ++ each_end l.ends
