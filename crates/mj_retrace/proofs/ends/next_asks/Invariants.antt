use Rattle.std.proofs.Common.{◌≡◌}
use Rattle.mj_load.specs.Image.{program_of}
use Rattle.mj_retrace.specs.Retraced.{AreAsked}
use Rattle.mj_retrace.proofs.ends.next_asks.Given as goal

-- so many jobs were let go on, and what is there is what they ask
abbrev pub invariant-loop-done : goal.invariant-loop-done
invariant-loop-done g l = record {
  image : l.core.image ≡ l.fn.core.image;
  history : l.core.history ≡ l.fn.core.history;
  asked : AreAsked (program_of l.fn.core.image) g.O.Opening.opening l.fn.core.history l.asked.items l.stands.items;
}
