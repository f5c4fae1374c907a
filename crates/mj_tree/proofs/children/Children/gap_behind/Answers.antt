use Rattle.std.proofs.Common.{sym}
use Rattle.mj_subs.specs.Collation.{subscript_cmp}
use Rattle.mj_tree.proofs.Numbers.{past_of}
use Rattle.mj_tree.proofs.Places.{sorted_back}
use Rattle.mj_tree.proofs.children.Children.gap_behind.Goals as goal

pub is_before_others-requires : goal.is_before_others-requires
is_before_others-requires c = sorted_back subscript_cmp c.args.self.now.row.items c.args.self.now.others.entries c.requires.ordered.rises

pub behind-gap-requires-clause-past : goal.behind-gap-requires-clause-past
behind-gap-requires-clause-past c =
    past_of c.args.sub.now c.in_ok-number.number c.args.self.now.row.items (c.in_ok-number.ensures.0, sym c.in_ok-number.ensures.1) c.requires.ordered.is_row c.requires.behind

pub returns-then-is_near-clause-end : goal.returns-then-is_near-clause-end
returns-then-is_near-clause-end c = (
  (c.in_ok-number.ensures.0, sym c.in_ok-number.ensures.1),
  c.behind-gap.ensures,
  c.is_before_others.ensures c.if-not-is_before_others.false,
)
