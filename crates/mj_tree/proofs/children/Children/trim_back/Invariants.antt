use Rattle.std.proofs.Common.{◌≡◌}
use Rattle.std.specs.VecDeque.{deque_len}
use Rattle.mj_tree.specs.Rows.{IsSound, live, all_of}
use Rattle.mj_tree.proofs.children.Children.trim_back.Given as goal

abbrev pub invariant-loop-last : goal.invariant-loop-last
invariant-loop-last l = record {
  sound : IsSound l.self;
  same : live (all_of l.self) ≡ live (all_of l.fn.self);
}

abbrev pub decreases-loop-last : goal.decreases-loop-last
decreases-loop-last l = deque_len l.self.row
