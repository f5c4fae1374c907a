use Rattle.std.proofs.Common.{◌≡◌, ◌≤◌, take, length}
use Rattle.mj_tree.specs.Rows.{live}
use Rattle.mj_tree.proofs.children.Children.last_before.Given as goal

-- no child stands from this place on
abbrev pub invariant-loop-at : goal.invariant-loop-at
invariant-loop-at l = record {
  same : live (take l.end l.self.row.items) ≡ live (take l.at l.self.row.items);
  within : l.at ≤ length l.self.row.items;
}

abbrev pub decreases-loop-at : goal.decreases-loop-at
decreases-loop-at l = l.at
