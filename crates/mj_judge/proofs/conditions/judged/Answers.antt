use Rattle.mj_judge.proofs.Judging.{judged_so}
use Rattle.mj_judge.proofs.conditions.judged.Goals as goal

pub returns : goal.returns
returns g c =
    let begun = c.in_ok-jobs.ensures in
    judged_so c.args.condition.now g.O.Opening.opening c.in_ok-jobs.jobs c.judged_by.new.jobs begun.0 c.judged_by.result begun.1 begun.2 c.judged_by.ensures.steps
    c.judged_by.ensures.shown
