use Rattle.std.proofs.Common.{◌≡◌, ◌++◌, drop}
use Rattle.mj_gfile.specs.Begins.{HasFront}
use Rattle.mj_gfile.specs.Spelling.{quoted_bytes}
use Rattle.mj_gfile.proofs.writing.add_quoted.Given as goal

abbrev pub invariant-loop-byte : goal.invariant-loop-byte
invariant-loop-byte l = record {
  all : l.bytes.items ++ quoted_bytes (drop l.byte-index l.text) ≡ l.initial.bytes.items ++ quoted_bytes l.text;
  kept : HasFront l.initial.bytes.items l.bytes.items;
}
