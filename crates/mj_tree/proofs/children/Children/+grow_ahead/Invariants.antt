use Rattle.mj_tree.proofs.children.Children.+grow_ahead.Given as goal

abbrev pub decreases-grow_ahead : goal.decreases-grow_ahead
decreases-grow_ahead l = l.gap
