use Rattle.std.proofs.Common.{◌≡◌, drop}
use Rattle.std.specs.VecDeque.Iter.{deque_iter_rest}
use Rattle.mj_tree.specs.Rows.{live}
use Rattle.mj_tree.proofs.children.Children.next_from.Given as goal

-- what is left holds all children from there on
abbrev pub invariant-loop-place : goal.invariant-loop-place
invariant-loop-place l = live (drop l.from l.self.row.items) ≡ live (deque_iter_rest l.place-iterator)
