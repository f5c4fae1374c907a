use Rattle.std.proofs.Common.{◌≡◌, ℕ, ◌+◌, ◌-◌, ◌++◌, sym, ◌∙◌, ap, arith}
use Rattle.mj_core.specs.Woven.{woven}
use Rattle.mj_gather.specs.Merged.{firsts, left_by_firsts}
use Rattle.mj_gather.specs.Lent.{lent, left_at}
use Rattle.mj_gather.proofs.Firsts.{left_on, firsts_on, left_end, firsts_end}
use Rattle.mj_gather.proofs.gathering.put_firsts.Goals as goal

pub loop-at-preserved : goal.loop-at-preserved
loop-at-preserved c =
    let logs = lent c.args.logs.now in
    let old = left_at logs c.loop-at.places in
    let new = left_at logs c.put.new.places in
    let told = c.in_ok-put.ensures in (
      c.put.ensures.all,
      c.loop-at.invariant.1 ∙ left_on c.args.jobs c.loop-at.at old new c.loop-at-test.true told.left,
      c.loop-at.invariant.2
          ∙ firsts_on c.args.jobs c.loop-at.at old new c.loop-at-test.true told.left (woven logs c.loop-at.order.items) (woven logs c.put.new.order.items) told.order,
      (λ all. c.put.ensures.there (c.loop-at.invariant.3 all)),
    )

pub returns-clause-order : goal.returns-clause-order
returns-clause-order c =
    let logs = lent c.args.logs.now in
    let n : c.loop-at.at ≡ c.args.jobs = omega arith in
    let left = left_at logs c.loop-at.places in
    sym (c.loop-at.invariant.2 ∙ (ap (λ (k : ℕ). woven logs c.loop-at.order.items ++ firsts (k + 1) (c.args.jobs - k) left) n
    ∙ firsts_end c.args.jobs (c.args.jobs + 1) left (woven logs c.loop-at.order.items)))

pub returns-clause-left : goal.returns-clause-left
returns-clause-left c =
    let logs = lent c.args.logs.now in
    let n : c.loop-at.at ≡ c.args.jobs = omega arith in
    let left = left_at logs c.loop-at.places in
    sym (c.loop-at.invariant.1 ∙ (ap (λ (k : ℕ). left_by_firsts (k + 1) (c.args.jobs - k) left) n ∙ left_end c.args.jobs (c.args.jobs + 1) left))
