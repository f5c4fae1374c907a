use Rattle.std.proofs.Common.{sym, ◌∙◌, arith}
use Rattle.std.specs.VecDeque.{deque_len}
use borrow.Author.Tests.{eqb-true}
use Rattle.mj_tree.proofs.Shrunk.{empty_both, some_row, none_told}
use Rattle.mj_tree.proofs.children.Children.is_empty.Goals as goal

-- the row has no place
pub returns-then-is_empty : goal.returns-then-is_empty
returns-then-is_empty c =
    empty_both c.is_empty-then-is_empty.result c.args.self.now.row.items c.args.self.now.others.entries
    (sym c.args.self.now.row.ok.0 ∙ eqb-true (deque_len c.args.self.now.row) 0 (sym c.if-is_empty.ensures)) c.is_empty-then-is_empty.ensures

-- it has one
pub returns-else-is_empty : goal.returns-else-is_empty
returns-else-is_empty c =
    some_row c.is_empty.result c.args.self.now.row.items c.args.self.now.others.entries c.if-is_empty.false
    (none_told (deque_len c.args.self.now.row) c.args.self.now.row.items c.args.self.now.row.ok.0 c.if-is_empty.ensures)
