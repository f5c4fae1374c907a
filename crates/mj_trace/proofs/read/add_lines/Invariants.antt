use Rattle.std.proofs.Common.{◌≡◌, ◌≤◌, ◌+◌, length}
use Rattle.mj_gfile.specs.Listing.{lines_of}
use Rattle.mj_trace.specs.Lines.{lines_from}
use Rattle.mj_trace.proofs.read.add_lines.Given as goal

-- the lines behind those that were read lead to the same
abbrev pub invariant-loop-line : goal.invariant-loop-line
invariant-loop-line l = record {
  reads : lines_from l.events l.initial.trace l.first (lines_of l.bytes) ≡ lines_from l.events l.trace l.number (lines_of l.rest);
  numbered : l.number + length l.rest ≤ length l.bytes + l.first;
}

abbrev pub decreases-loop-line : goal.decreases-loop-line
decreases-loop-line l = length l.rest
