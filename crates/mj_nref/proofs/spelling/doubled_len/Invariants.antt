use Rattle.std.proofs.Common.{◌≡◌, ◌≤◌, ◌+◌, ◌*◌, drop, length}
use Rattle.mj_nref.specs.Spelling.{doubled}
use Rattle.mj_nref.proofs.spelling.doubled_len.Given as goal

abbrev pub invariant-loop-byte : goal.invariant-loop-byte
invariant-loop-byte l = (l.len + length (doubled (drop l.byte-index l.text)) ≡ length (doubled l.text)) × (l.len ≤ 2 * l.byte-index)
