use Rattle.std.proofs.Common.{◌∙◌, sym, arith}
use Rattle.mj_guide.proofs.Counting.{counted_few, counted_no, counted_yes}
use Rattle.mj_guide.proofs.tally.ended_with.Goals as goal

pub overflow_add-ended : goal.overflow_add-ended
overflow_add-ended g c =
    let core = c.args.core.now in
    let few = counted_few core.history c.args.at c.args.before core.image.bounds.events c.requires.counted c.len-events.ensures.within in
    omega (arith, few, c.len-events.ensures.most)

pub returns-then-is_end : goal.returns-then-is_end
returns-then-is_end g c = counted_yes c.args.core.now.history c.args.at c.args.before c.requires.counted (sym c.is_end.ensures ∙ c.if-is_end.true)

pub returns : goal.returns
returns g c = counted_no c.args.core.now.history c.args.at c.args.before c.requires.counted (sym c.is_end.ensures ∙ c.if-is_end.false) c.requires.within
