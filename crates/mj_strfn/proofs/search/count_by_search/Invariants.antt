use Rattle.std.proofs.Common.{◌≡◌, ◌+◌, ◌≤◌, length}
use Rattle.mj_strfn.specs.Pieces.{pieces}
use Rattle.mj_strfn.proofs.search.count_by_search.Given as goal

abbrev pub invariant-loop-more : goal.invariant-loop-more
invariant-loop-more l = record {
  counted : l.ended + length (pieces l.separator l.rest) ≡ length (pieces l.separator l.bytes);
  limit : l.ended + length l.rest ≤ length l.bytes;
}

abbrev pub decreases-loop-more : goal.decreases-loop-more
decreases-loop-more l = length l.rest
