use Rattle.std.proofs.Common.{arith}
use Rattle.mj_judge.proofs.Faulting.{goes_on, ends_here, none_ends}
use Rattle.mj_judge.proofs.marks.fault_in.Goals as goal

pub events-preserved : goal.events-preserved
events-preserved g c =
    let l = c.events in
    goes_on c.args.core.now.history l.at c.fault_at.result (omega (arith, c.events-test.true, c.len-at-end.ensures.value)) c.fault_at.ensures c.in-None.is l.invariant

pub returns-in-Some : goal.returns-in-Some
returns-in-Some g c =
    let l = c.events in
    ends_here c.args.core.now.history l.at c.fault_at.result c.in-Some.fault (omega (arith, c.events-test.true, c.len-at-end.ensures.value)) c.fault_at.ensures
    c.in-Some.is l.invariant

pub returns : goal.returns
returns g c =
    let l = c.events in
    none_ends c.args.core.now.history l.at (omega (arith, c.events-test.false, c.len-at-end.ensures.value)) l.invariant
