use Rattle.mj_explore.proofs.Making.{AreNoted}
use Rattle.mj_explore.proofs.exploring.explore.Given as goal

-- so many runs were made, these are their ends, and so many came to what
abbrev pub invariant-runs : goal.invariant-runs
invariant-runs g l = AreNoted l.script g.O.Opening.opening l.done l.ends.items l.tally
