use Rattle.std.proofs.Common.{◌≡◌, [], ◌++◌}
use Rattle.std.specs.VecDeque.Iter.{deque_iter_rest}
use Rattle.mj_tree.specs.Nest.{weight}
use Rattle.mj_tree.proofs.Lighter.{AreLighter}
use Rattle.mj_tree.proofs.node.Node.+try_clone.Given as goal

-- the places so far and those to come are all; each of them weighs less than the node, and the text stays
abbrev pub invariant-loop-place : goal.invariant-loop-place
invariant-loop-place l = record {
  row : l.copy.row.items ++ deque_iter_rest l.place-iterator ≡ l.children.value.row.items;
  others : l.copy.others.entries ≡ [];
  light : AreLighter (weight l.fn.self) (deque_iter_rest l.place-iterator);
  text : l.text ≡ l.initial.text;
}

-- the same of the others
abbrev pub invariant-loop-sub : goal.invariant-loop-sub
invariant-loop-sub l = record {
  row : l.copy.row.items ≡ l.initial.copy.row.items;
  others : l.copy.others.entries ++ l.sub-iterator ≡ l.initial.sub-iterator;
  light : AreLighter (weight l.fn.self) l.sub-iterator;
  text : l.text ≡ l.initial.text;
}

abbrev pub decreases-try_clone : goal.decreases-try_clone
decreases-try_clone l = weight l.self.now
