use Rattle.std.proofs.Common.{◌≡◌, length}
use Rattle.mj_gfile.specs.Reading.{Whole, quoted_at}
use Rattle.mj_gfile.proofs.Joined.{joined}
use Rattle.mj_gfile.proofs.quoted.read_quoted.Given as goal

-- the bytes so far and those to come are all
abbrev pub invariant-loop-unit : goal.invariant-loop-unit
invariant-loop-unit l = quoted_at Whole l.bytes ≡ joined l.text.items (quoted_at Whole l.rest)

abbrev pub decreases-loop-unit : goal.decreases-loop-unit
decreases-loop-unit l = length l.rest
