use Rattle.std.proofs.Common.{refl}
use Rattle.mj_tree.proofs.Added.{added_other}
use Rattle.mj_tree.proofs.children.Children.add_other.Goals as goal

pub returns : goal.returns
returns c = added_other c.put.result c.args.self.now _ c.args.sub.now c.args.child c.requires.can c.requires.behind refl c.put.ensures.ok c.put.ensures.err
