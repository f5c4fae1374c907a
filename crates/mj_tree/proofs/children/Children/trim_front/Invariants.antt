use Rattle.std.proofs.Common.{◌≡◌}
use Rattle.std.specs.VecDeque.{deque_len}
use Rattle.mj_tree.specs.Rows.{IsOrdered, live, all_of}
use Rattle.mj_tree.proofs.children.Children.trim_front.Given as goal

abbrev pub invariant-loop-first : goal.invariant-loop-first
invariant-loop-first l = record {
  ordered : IsOrdered l.self.row.items l.self.others.entries;
  same : live (all_of l.self) ≡ live (all_of l.fn.self);
}

abbrev pub decreases-loop-first : goal.decreases-loop-first
decreases-loop-first l = deque_len l.self.row
