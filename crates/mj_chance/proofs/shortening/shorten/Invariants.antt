use Rattle.std.specs.Prelude.{◌≤◌, length}
use Rattle.mj_chance.proofs.shortening.shorten.Given as goal

-- the best so far shows it, and is no longer
abbrev pub invariant-tries : goal.invariant-tries
invariant-tries g l = record {
  shows : g.T.Trial.shows l.fn.trial l.best.items;
  short : length l.best.items ≤ length l.fn.shown.items;
}
