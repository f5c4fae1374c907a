use Rattle.std.proofs.Common.{sym, ◌∙◌}
use Rattle.mj_locktab.proofs.Named.{conflict_passed, conflict_found, conflict_nowhere}
use Rattle.mj_locktab.proofs.part.first_conflict.Goals as goal

pub loop-held-preserved : goal.loop-held-preserved
loop-held-preserved c =
    conflict_passed c.args.holder c.args.job c.args.name.now c.args.part.now.entries c.loop-held.held-iterator c.next.new.self (c.in-Some.held.now, c.in-Some.count.now) c.in-Some.ensures.steps
    c.loop-held.invariant (sym c.is_conflict.ensures ∙ c.if-is_conflict.false)

pub returns-then-is_conflict : goal.returns-then-is_conflict
returns-then-is_conflict c =
    conflict_found c.args.holder c.args.job c.args.name.now c.args.part.now.entries c.loop-held.held-iterator c.next.new.self (c.in-Some.held.now, c.in-Some.count.now) c.in-Some.ensures.steps
    c.loop-held.invariant (sym c.is_conflict.ensures ∙ c.if-is_conflict.true)

pub returns : goal.returns
returns c = conflict_nowhere c.args.holder c.args.job c.args.name.now c.args.part.now.entries c.loop-held.held-iterator c.in-None.ensures.steps.0 c.loop-held.invariant
