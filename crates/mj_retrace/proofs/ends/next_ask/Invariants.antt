use Rattle.std.proofs.Common.{◌≡◌}
use Rattle.mj_retrace.proofs.ends.next_ask.Given as goal

-- nothing is asked or told
abbrev pub invariant-loop : goal.invariant-loop
invariant-loop g l = record { image : l.core.image ≡ l.fn.core.image; history : l.core.history ≡ l.fn.core.history }
