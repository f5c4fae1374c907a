use Rattle.std.proofs.Common.{◌≡◌, length}
use Rattle.mj_hints.specs.Hints.{past_blanks}
use Rattle.mj_hints.proofs.around.past_blanks.Given as goal

-- what stands behind the blanks of the rest is what stands behind all
abbrev pub invariant-blanks : goal.invariant-blanks
invariant-blanks l = past_blanks l.rest ≡ past_blanks l.there

abbrev pub decreases-blanks : goal.decreases-blanks
decreases-blanks l = length l.rest
