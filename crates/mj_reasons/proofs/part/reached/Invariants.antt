use Rattle.std.proofs.Common.{◌≡◌, ◌≤◌, ◌+◌, length}
use Rattle.mj_reasons.specs.Parts.{reached}
use Rattle.mj_reasons.proofs.part.reached.Given as goal

-- what is read of the line is what was read, and what is read of the rest
abbrev pub invariant-bytes : goal.invariant-bytes
invariant-bytes l = record {
  short : length l.rest ≤ length l.line;
  count : (reached l.fn.begins l.line).0 + length l.rest ≡ length l.line + (reached l.part l.rest).0;
  ends : (reached l.fn.begins l.line).1 ≡ (reached l.part l.rest).1;
}

abbrev pub decreases-bytes : goal.decreases-bytes
decreases-bytes l = length l.rest
