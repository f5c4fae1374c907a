use Rattle.mj_tree.proofs.Numbers.{no_place_word}
use Rattle.mj_tree.proofs.children.Children.place_of.Goals as goal

pub returns-in-None : goal.returns-in-None
returns-in-None c = no_place_word c.args.sub.now c.requires.0 c.args.self.now.row.items c.in-None.ensures c.requires.1
