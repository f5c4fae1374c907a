use Rattle.std.proofs.Common.{sym, arith}
use Rattle.std.proofs.lemmas.Int.{ints}
use Rattle.mj_tree.proofs.Offsets.{offset, offset_is, ahead_less, less_le, some_offset, ahead_by}
use Rattle.mj_tree.proofs.children.Children.gap_ahead.Goals as goal

pub overflow_cast-gap : goal.overflow_cast-gap
overflow_cast-gap c =
    let less =
    ahead_less c.args.sub.now c.in_ok-number.number c.in_ok-first.first c.args.self.now.row.items (c.in_ok-number.ensures.0, sym c.in_ok-number.ensures.1) c.in_ok-first.ensures.numbers
    c.requires.ahead in
    let limit = c.value.ensures.limit in
    let limit2 = c.value-2.ensures.limit in
    let is = c.value.ensures.value in
    let is2 = c.value-2.ensures.value in omega (arith, ints)

pub overflow_sub-gap-2 : goal.overflow_sub-gap-2
overflow_sub-gap-2 c =
    let less =
    ahead_less c.args.sub.now c.in_ok-number.number c.in_ok-first.first c.args.self.now.row.items (c.in_ok-number.ensures.0, sym c.in_ok-number.ensures.1) c.in_ok-first.ensures.numbers
    c.requires.ahead in
    some_offset c.in_ok-number.number c.in_ok-first.first (offset c.value.result c.value-2.result) less
    (offset_is c.in_ok-first.first c.in_ok-number.number c.value.result c.value-2.result c.value.ensures.limit c.value-2.ensures.limit (less_le c.in_ok-number.number c.in_ok-first.first less)
    c.value.ensures.value c.value-2.ensures.value)

pub returns-then-is_near-clause-ahead : goal.returns-then-is_near-clause-ahead
returns-then-is_near-clause-ahead c =
    let less =
    ahead_less c.args.sub.now c.in_ok-number.number c.in_ok-first.first c.args.self.now.row.items (c.in_ok-number.ensures.0, sym c.in_ok-number.ensures.1) c.in_ok-first.ensures.numbers
    c.requires.ahead in (
      (c.in_ok-number.ensures.0, sym c.in_ok-number.ensures.1),
      ahead_by c.in_ok-first.first c.in_ok-number.number c.args.self.now.row.items (offset c.value.result c.value-2.result) less c.in_ok-first.ensures.some c.in_ok-first.ensures.numbers
          (offset_is c.in_ok-first.first c.in_ok-number.number c.value.result c.value-2.result c.value.ensures.limit c.value-2.ensures.limit
          (less_le c.in_ok-number.number c.in_ok-first.first less) c.value.ensures.value c.value-2.ensures.value),
    )
