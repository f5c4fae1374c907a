use Rattle.std.proofs.Common.{◌≡◌, ◌++◌, drop}
use Rattle.mj_nref.specs.Spelling.{doubled}
use Rattle.mj_nref.proofs.spelling.put_doubled.Given as goal

abbrev pub invariant-loop-byte : goal.invariant-loop-byte
invariant-loop-byte l = l.bytes.items ++ doubled (drop l.byte-index l.text) ≡ l.initial.bytes.items ++ doubled l.text
