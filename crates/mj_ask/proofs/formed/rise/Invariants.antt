use Rattle.std.proofs.Common.{◌≡◌, length}
use Rattle.std.specs.FinMap.{is_sorted}
use Rattle.mj_subs.specs.Collation.{subscripts_cmp}
use Rattle.mj_ask.proofs.formed.rise.Given as goal

abbrev pub invariant-loop-first : goal.invariant-loop-first
invariant-loop-first l = is_sorted subscripts_cmp l.nodes ≡ is_sorted subscripts_cmp l.rest

abbrev pub decreases-loop-first : goal.decreases-loop-first
decreases-loop-first l = length l.rest
