use Rattle.std.proofs.Common.{sym, ◌∙◌, subst}
use Rattle.mj_locktab.specs.Trees.{Tallies}
use Rattle.mj_locktab.proofs.InWay.{IsLeft, all_left, one_passed, one_found, none_found, why_passed, why_found}
use Rattle.mj_locktab.proofs.tally.first_other_in.Goals as goal

pub loop-other-init : goal.loop-other-init
loop-other-init c =
    let given = c.into_iter-other-iterator.ensures.into_iter_gives in
    subst (λ (left : Tallies). IsLeft c.args.map.now.entries left c.args.job) (sym given.0) (all_left c.args.map.now.entries c.args.job given.5)

pub loop-other-preserved : goal.loop-other-preserved
loop-other-preserved c =
    one_passed c.args.map.now.entries c.loop-other.other-iterator c.next.new.self c.args.job c.in-Some.other.now c.in-Some.count.now c.loop-other.invariant c.in-Some.ensures.steps
    (why_passed c.in-Some.other.now c.args.job c.in-Some.count.now (sym c.has_one.ensures ∙ c.if-has_one.false))

pub returns-then-has_one : goal.returns-then-has_one
returns-then-has_one c =
    let why = why_found c.in-Some.other.now c.args.job c.in-Some.count.now (sym c.has_one.ensures ∙ c.if-has_one.true) in
    one_found c.args.map.now.entries c.loop-other.other-iterator c.next.new.self c.args.job c.in-Some.other.now c.in-Some.count.now c.loop-other.invariant c.in-Some.ensures.steps why.0 why.1

pub returns : goal.returns
returns c = none_found c.args.map.now.entries c.loop-other.other-iterator c.args.job c.loop-other.invariant c.in-None.ensures.steps.0
