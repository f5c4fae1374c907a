use Rattle.std.proofs.Common.{◌≡◌, length}
use Rattle.mj_reasons.specs.Reasons.{returns_at}
use Rattle.mj_reasons.proofs.reason.returns_at.Given as goal

-- of the rest and the lines before the place that it has the same holds as of all
abbrev pub invariant-bytes : goal.invariant-bytes
invariant-bytes l = record {
  same : returns_at l.place l.rest ≡ returns_at l.fn.at l.text;
}

abbrev pub decreases-bytes : goal.decreases-bytes
decreases-bytes l = length l.rest
