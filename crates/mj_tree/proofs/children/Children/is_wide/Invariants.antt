use Rattle.std.proofs.Common.{◌≤◌, ◌-◌}
use Rattle.std.specs.VecDeque.{deque_len}
use Rattle.mj_tree.proofs.children.Children.is_wide.Given as goal

abbrev pub invariant-loop-end : goal.invariant-loop-end
invariant-loop-end l = record {
  from : l.at ≤ l.end;
  within : l.end ≤ deque_len l.self.row;
}

abbrev pub decreases-loop-end : goal.decreases-loop-end
decreases-loop-end l = deque_len l.self.row - l.end

abbrev pub invariant-loop-start : goal.invariant-loop-start
invariant-loop-start l = l.start ≤ l.at

abbrev pub decreases-loop-start : goal.decreases-loop-start
decreases-loop-start l = l.start
