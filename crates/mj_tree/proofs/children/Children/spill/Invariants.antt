use Rattle.std.proofs.Common.{◌≡◌}
use Rattle.std.specs.VecDeque.{deque_len}
use Rattle.mj_tree.specs.Rows.{IsSound, live, all_of}
use Rattle.mj_tree.proofs.children.Children.spill.Given as goal

abbrev pub invariant-loop-self : goal.invariant-loop-self
invariant-loop-self l = record {
  sound : IsSound l.self;
  same : live (all_of l.self) ≡ live (all_of l.fn.self);
}

abbrev pub decreases-loop-self : goal.decreases-loop-self
decreases-loop-self l = deque_len l.self.row
