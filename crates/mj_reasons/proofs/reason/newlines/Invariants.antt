use Rattle.std.proofs.Common.{◌≡◌, ◌≤◌, ◌+◌, length}
use Rattle.mj_reasons.specs.Reasons.{newlines}
use Rattle.mj_reasons.proofs.reason.newlines.Given as goal

-- those before the rest and those in it are all
abbrev pub invariant-bytes : goal.invariant-bytes
invariant-bytes l = record {
  few : l.count + length l.rest ≤ length l.text;
  all : l.count + newlines l.rest ≡ newlines l.text;
}

abbrev pub decreases-bytes : goal.decreases-bytes
decreases-bytes l = length l.rest
