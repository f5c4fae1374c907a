-- What an iterator over children has left.
use Rattle.std.specs.Prelude.{ℕ, List, ◌++◌}
use Rattle.std.specs.VecDeque.Iter.{deque_iter_rest}
use Rattle.mj_store.specs.Questions.{Subtree}
use Rattle.mj_tree.specs.declared.children.Steps.{Steps}

-- the places of the row that are left, and then the others that are
abbrev pub steps_rest : Steps → List (List ℕ × Subtree)
steps_rest it = deque_iter_rest it.row ++ it.others
