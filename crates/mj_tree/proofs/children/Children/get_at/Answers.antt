use Rattle.std.proofs.Common.{Some}
use Rattle.mj_tree.proofs.Added.{found_place, at_hand_number}
use Rattle.mj_tree.proofs.Numbers.{place_by_number}
use Rattle.mj_tree.proofs.children.Children.get_at.Goals as goal

-- the place of the number is that of its text
pub returns-in-Some-place : goal.returns-in-Some-place
returns-in-Some-place c =
    found_place c.args.text.now c.args.self.now.row.items c.args.self.now.others.entries c.in-Some-place.at c.index.result.now c.requires
    (place_by_number c.args.text.now c.in-Some.number c.args.self.now.row.items (Some c.in-Some-place.at)
    (at_hand_number c.args.text.now c.in-Some.number c.in-Some.ensures.reads c.in-Some.ensures.spelled) c.in-Some-place.ensures)
    c.index.ensures
