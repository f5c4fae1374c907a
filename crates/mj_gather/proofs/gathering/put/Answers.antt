use Rattle.std.proofs.Common.{◌≡◌, suc, arith}
use Rattle.mj_gather.specs.Lent.{lent, left_at}
use Rattle.mj_gather.proofs.Written.{left_nobody, passed_none, said_none}
use Rattle.mj_gather.proofs.Putting.{said_from, left_from}
use Rattle.mj_gather.proofs.gathering.put.Goals as goal

pub returns-in_default-clause-order : goal.returns-in_default-clause-order
returns-in_default-clause-order c =
    said_none (lent c.args.logs.now) (left_at (lent c.args.logs.now) c.args.places.now) c.args.order.now.items c.args.job
    (left_nobody (lent c.args.logs.now) c.args.places.now c.args.job (omega arith))

pub returns-in_default-clause-left : goal.returns-in_default-clause-left
returns-in_default-clause-left c =
    passed_none (left_at (lent c.args.logs.now) c.args.places.now) c.args.job
    (left_nobody (lent c.args.logs.now) c.args.places.now c.args.job (omega arith))

pub returns-clause-order : goal.returns-clause-order
returns-clause-order c =
    said_from (lent c.args.logs.now) c.args.places.now c.args.job c.in-Some.at c.in_ok-place.place _ (let e : c.args.job ≡ suc c.in-Some.at = omega arith in e) (omega arith)
    c.args.order.now.items c.put_own.new.order.items c.in_ok-place.ensures.written

pub returns-clause-left : goal.returns-clause-left
returns-clause-left c =
    left_from (lent c.args.logs.now) c.args.places.now c.args.job c.in-Some.at c.in_ok-place.place _ (let e : c.args.job ≡ suc c.in-Some.at = omega arith in e) (omega arith)
    c.in_ok-place.ensures.left
