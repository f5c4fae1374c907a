use Rattle.std.proofs.Common.{arith}
use Rattle.mj_faulted.specs.Walks.{lent}
use Rattle.mj_faults.proofs.Entries.{replies_on, replies_all}
use Rattle.mj_faults.proofs.history.replies_of.Goals as goal

pub events-preserved : goal.events-preserved
events-preserved g c =
    replies_on c.args.job (g.H.Events.history c.args.told.now) c.events.at (lent c.events.list.items) (lent c.add_reply.new.list.items) c.events.invariant
    c.in_ok-add_reply.ensures

pub returns : goal.returns
returns g c =
    replies_all c.args.job (g.H.Events.history c.args.told.now) c.events.at (lent c.events.list.items) c.events.invariant
    (omega (arith, c.events-test.false, c.count-at-end.ensures))
