use Rattle.std.proofs.Common.{sym, arith}
use Rattle.mj_subs.specs.Collation.{subscript_cmp}
use Rattle.mj_tree.proofs.Numbers.{span_place, span_ahead, span_past}
use Rattle.mj_tree.proofs.Places.{sorted_front}
use Rattle.mj_tree.proofs.children.Children.span.Goals as goal

-- at a place of the row
pub returns-in-Some-clause-before : goal.returns-in-Some-clause-before
returns-in-Some-clause-before c =
    (span_place c.args.sub.now c.args.self.now.row.items c.in-Some.at (sorted_front subscript_cmp c.args.self.now.row.items c.args.self.now.others.entries c.requires.rises) c.in-Some.ensures).0

pub returns-in-Some-clause-behind : goal.returns-in-Some-clause-behind
returns-in-Some-clause-behind c =
    (span_place c.args.sub.now c.args.self.now.row.items c.in-Some.at (sorted_front subscript_cmp c.args.self.now.row.items c.args.self.now.others.entries c.requires.rises) c.in-Some.ensures).1

-- before the row
pub returns-then-is_ahead-clause-before : goal.returns-then-is_ahead-clause-before
returns-then-is_ahead-clause-before c =
    (span_ahead c.args.sub.now c.args.self.now.row.items (sorted_front subscript_cmp c.args.self.now.row.items c.args.self.now.others.entries c.requires.rises) (sym c.if-is_ahead.ensures)).0

pub returns-then-is_ahead-clause-behind : goal.returns-then-is_ahead-clause-behind
returns-then-is_ahead-clause-behind c =
    (span_ahead c.args.sub.now c.args.self.now.row.items (sorted_front subscript_cmp c.args.self.now.row.items c.args.self.now.others.entries c.requires.rises) (sym c.if-is_ahead.ensures)).1

-- behind it
pub returns-else-is_ahead-clause-before : goal.returns-else-is_ahead-clause-before
returns-else-is_ahead-clause-before c =
    (span_past c.args.sub.now c.args.self.now.row.items c.len.result c.requires.is_row c.in-None.ensures (sym c.if-is_ahead.ensures) (omega (arith, c.len.ensures, c.args.self.now.row.ok.0))).0

pub returns-else-is_ahead-clause-behind : goal.returns-else-is_ahead-clause-behind
returns-else-is_ahead-clause-behind c =
    (span_past c.args.sub.now c.args.self.now.row.items c.len-else-is_ahead.result c.requires.is_row c.in-None.ensures (sym c.if-is_ahead.ensures)
    (omega (arith, c.len-else-is_ahead.ensures, c.args.self.now.row.ok.0))).1
