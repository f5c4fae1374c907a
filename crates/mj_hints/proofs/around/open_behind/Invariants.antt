use Rattle.std.proofs.Common.{◌≡◌, ◌≤◌, ◌+◌, false, length}
use Rattle.mj_hints.specs.Hints.{open_behind}
use Rattle.mj_hints.proofs.around.open_behind.Given as goal

-- what is open behind the rest is what is open behind all, and no more than was read
abbrev pub invariant-bytes : goal.invariant-bytes
invariant-bytes l = record {
  count : l.open + length l.rest ≤ length l.bytes;
  goes : open_behind l.quoted l.open l.rest ≡ open_behind false 0 l.bytes;
}

abbrev pub decreases-bytes : goal.decreases-bytes
decreases-bytes l = length l.rest
