use Rattle.std.proofs.Common.{sym}
use Rattle.mj_subs.specs.Collation.{subscript_cmp}
use Rattle.mj_tree.proofs.Numbers.{past_row}
use Rattle.mj_tree.proofs.Places.{none_front}
use Rattle.mj_tree.proofs.children.Children.add.Goals as goal

-- what has no place in the row and isn't before it comes behind it
pub add_behind-requires-clause-behind : goal.add_behind-requires-clause-behind
add_behind-requires-clause-behind c =
    past_row c.args.sub.now c.requires.sound.0.is_row.0 c.args.self.now.row.items c.requires.sound.0.is_row.1
    (none_front subscript_cmp c.args.sub.now c.args.self.now.row.items c.args.self.now.others.entries c.requires.absent) (sym c.if-is_ahead.ensures)
