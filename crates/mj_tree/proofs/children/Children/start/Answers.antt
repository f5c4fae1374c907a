use Rattle.mj_tree.proofs.Numbers.{start_told}
use Rattle.mj_tree.proofs.Offsets.{if_some}
use Rattle.mj_tree.proofs.children.Children.start.Goals as goal

pub returns-in-Some-clause-numbers : goal.returns-in-Some-clause-numbers
returns-in-Some-clause-numbers c = start_told c.args.self.now.row.items c.in-Some.first.now c.number.result c.in-Some.ensures.item.3.0 c.in-Some.ensures.lookup c.requires c.number.ensures

pub returns-in-Some-clause-some : goal.returns-in-Some-clause-some
returns-in-Some-clause-some c = if_some c.number.result c.in-Some.ensures.item.3.0
