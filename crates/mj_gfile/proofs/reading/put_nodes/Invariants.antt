use Rattle.std.proofs.Common.{◌≡◌, ◌≤◌, ◌+◌, None, length}
use Rattle.mj_gfile.specs.Listing.{nodes_of, lines_of}
use Rattle.mj_gfile.proofs.InOrder.{joined_nodes, AreBefore}
use Rattle.mj_gfile.proofs.reading.put_nodes.Given as goal

-- the names so far and those to come are all, and those so far stand before those to come
abbrev pub invariant-loop-line : goal.invariant-loop-line
invariant-loop-line l = record {
  reads : nodes_of l.limit None 2 (lines_of l.bytes) ≡ joined_nodes l.globals.content (nodes_of l.limit l.last l.number (lines_of l.rest));
  stand : AreBefore l.globals.content l.last;
  numbered : l.number + length l.rest ≤ length l.bytes + 2;
}

abbrev pub decreases-loop-line : goal.decreases-loop-line
decreases-loop-line l = length l.rest
