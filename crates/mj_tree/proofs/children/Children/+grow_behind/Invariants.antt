use Rattle.mj_tree.proofs.children.Children.+grow_behind.Given as goal

abbrev pub decreases-grow_behind : goal.decreases-grow_behind
decreases-grow_behind l = l.gap
