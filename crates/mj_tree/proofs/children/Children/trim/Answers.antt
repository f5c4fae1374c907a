use Rattle.std.proofs.Common.{◌∙◌, arith}
use Rattle.mj_tree.proofs.children.Children.trim.Goals as goal

pub spill-refused-requires : goal.spill-refused-requires
spill-refused-requires c = (c.requires.ordered, c.requires.head (omega arith))

pub trim_back-requires : goal.trim_back-requires
trim_back-requires c = c.spill-refused.ensures.sound

pub returns-then-is_wide-clause-same : goal.returns-then-is_wide-clause-same
returns-then-is_wide-clause-same c = c.trim_back.ensures.same ∙ c.spill-refused.ensures.same

pub trim_back-requires-2 : goal.trim_back-requires-2
trim_back-requires-2 c = (c.requires.ordered, c.requires.head (omega arith))
