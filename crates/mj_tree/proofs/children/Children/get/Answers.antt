use Rattle.std.proofs.Common.{sym, ◌∙◌}
use Rattle.mj_subs.specs.Collation.{subscript_cmp}
use Rattle.mj_tree.proofs.Added.{found_place}
use Rattle.mj_tree.proofs.Places.{lookup_past}
use Rattle.mj_tree.proofs.children.Children.get.Goals as goal

pub returns-in-Some : goal.returns-in-Some
returns-in-Some c = found_place c.args.sub.now c.args.self.now.row.items c.args.self.now.others.entries c.in-Some.at c.index.result.now c.requires c.in-Some.ensures c.index.ensures

pub returns-in-None : goal.returns-in-None
returns-in-None c = c.get.ensures.value ∙ sym (lookup_past subscript_cmp c.args.sub.now c.args.self.now.row.items c.args.self.now.others.entries c.in-None.ensures)
