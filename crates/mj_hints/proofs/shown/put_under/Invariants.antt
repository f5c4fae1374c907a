use Rattle.std.proofs.Common.{◌≡◌, ◌++◌, take}
use Rattle.mj_hints.specs.Shown.{under_bytes}
use Rattle.mj_hints.proofs.shown.put_under.Given as goal

abbrev pub invariant-loop-byte : goal.invariant-loop-byte
invariant-loop-byte l = l.bytes.items ≡ l.initial.bytes.items ++ under_bytes (take l.byte-index l.source)
