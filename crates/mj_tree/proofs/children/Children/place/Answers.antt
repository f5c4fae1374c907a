use Rattle.std.proofs.Common.{length, sym, arith}
use Rattle.mj_tree.proofs.Added.{lt_of, le_of}
use Rattle.mj_tree.proofs.Numbers.{the_place, no_place_below, no_place_past}
use Rattle.mj_tree.proofs.Offsets.{offset, offset_is, no_nearer}
use Rattle.mj_tree.proofs.children.Children.place.Goals as goal

-- a number before the first of the row
pub returns-then-is_less : goal.returns-then-is_less
returns-then-is_less c =
    no_place_below c.args.number c.in_ok-first.first c.args.self.now.row.items c.in_ok-first.ensures.numbers (lt_of c.args.number c.in_ok-first.first (sym c.if-is_less.ensures))

-- one that is so far behind the first
pub returns-then-at-len : goal.returns-then-at-len
returns-then-at-len c =
    let is =
    offset_is c.args.number c.in_ok-first.first c.value.result c.value-2.result c.value.ensures.limit c.value-2.ensures.limit (le_of c.args.number c.in_ok-first.first (sym c.if-is_less.ensures))
    c.value.ensures.value c.value-2.ensures.value in
    the_place c.args.number c.in_ok-first.first c.args.self.now.row.items (offset c.value.result c.value-2.result) c.in_ok-first.ensures.numbers
    (omega (arith, c.if-at-len.true, c.len.ensures, c.args.self.now.row.ok.0)) is

-- one behind all of it
pub returns-else-at-len : goal.returns-else-at-len
returns-else-at-len c =
    let is =
    offset_is c.args.number c.in_ok-first.first c.value.result c.value-2.result c.value.ensures.limit c.value-2.ensures.limit (le_of c.args.number c.in_ok-first.first (sym c.if-is_less.ensures))
    c.value.ensures.value c.value-2.ensures.value in
    no_place_past c.args.number c.in_ok-first.first c.args.self.now.row.items c.in_ok-first.ensures.numbers
    (no_nearer c.args.number c.in_ok-first.first (offset c.value.result c.value-2.result) (length c.args.self.now.row.items) is
    (omega (arith, c.if-at-len.false, c.len.ensures, c.args.self.now.row.ok.0)))
