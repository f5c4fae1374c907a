use Rattle.std.proofs.Common.{◌≡◌, ◌+◌, ◌≤◌, [], ◌∷◌, length}
use Rattle.mj_strfn.specs.Pieces.{pieces}
use Rattle.mj_strfn.proofs.search.count_by_byte.Given as goal

abbrev pub invariant-loop-more : goal.invariant-loop-more
invariant-loop-more l = record {
  counted : l.found + length (pieces (l.separator ∷ []) l.rest) ≡ length (pieces (l.separator ∷ []) l.bytes) + 1;
  limit : l.found + length l.rest ≤ length l.bytes + 1;
}

abbrev pub decreases-loop-more : goal.decreases-loop-more
decreases-loop-more l = length l.rest
