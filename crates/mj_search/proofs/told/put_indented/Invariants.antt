use Rattle.std.proofs.Common.{◌≡◌, ◌++◌, drop}
use Rattle.mj_search.specs.Told.{indented}
use Rattle.mj_search.proofs.told.put_indented.Given as goal

-- what is left goes behind what is put
abbrev pub invariant-bytes : goal.invariant-bytes
invariant-bytes l = l.bytes.items ++ indented l.last (drop l.byte-index l.text) ≡ l.fn.bytes.items ++ indented 10 l.text
