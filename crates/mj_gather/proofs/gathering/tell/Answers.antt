use Rattle.std.proofs.Common.{sym}
use Rattle.mj_gather.specs.Lent.{lent}
use Rattle.mj_gather.proofs.Hearing.{left_alone, told_alone, left_both, told_both}
use Rattle.mj_gather.proofs.gathering.tell.Goals as goal

pub returns-then-not-heard-clause-other : goal.returns-then-not-heard-clause-other
returns-then-not-heard-clause-other c = λ is rest. c.in_ok-heard.ensures.other c.if-not-heard.true rest

pub returns-in-None-clause-head : goal.returns-in-None-clause-head
returns-in-None-clause-head c = λ is. (c.in_ok-heard.ensures.next c.if-not-heard.false).first

pub returns-in-None-clause-order : goal.returns-in-None-clause-order
returns-in-None-clause-order c = λ is.
    told_alone (lent c.args.logs.now) c.args.places.now c.hear.new.places c.put.new.places c.args.order.now.items c.hear.new.order.items c.put.new.order.items
    c.args.event.now (c.in_ok-heard.ensures.next c.if-not-heard.false) c.in_ok-put.ensures.left c.in_ok-put.ensures.order (sym c.in-None.ensures)

pub returns-in-None-clause-left : goal.returns-in-None-clause-left
returns-in-None-clause-left c = λ is.
    left_alone (lent c.args.logs.now) c.args.places.now c.hear.new.places c.put.new.places c.args.order.now.items c.hear.new.order.items c.put.new.order.items
    c.args.event.now (c.in_ok-heard.ensures.next c.if-not-heard.false) c.in_ok-put.ensures.left c.in_ok-put.ensures.order (sym c.in-None.ensures)

pub returns-in_ok-put-in-Some-clause-order : goal.returns-in_ok-put-in-Some-clause-order
returns-in_ok-put-in-Some-clause-order c = λ is.
    told_both (lent c.args.logs.now) c.args.places.now c.hear.new.places c.put.new.places c.args.order.now.items c.hear.new.order.items c.put.new.order.items
    c.args.event.now (c.in_ok-heard.ensures.next c.if-not-heard.false) c.in_ok-put.ensures.left c.in_ok-put.ensures.order c.in-Some.job (sym c.in-Some.ensures)
    c.put-in-Some.new.places c.put-in-Some.new.order.items c.in_ok-put-in-Some.ensures.left c.in_ok-put-in-Some.ensures.order

pub returns-in_ok-put-in-Some-clause-left : goal.returns-in_ok-put-in-Some-clause-left
returns-in_ok-put-in-Some-clause-left c = λ is.
    left_both (lent c.args.logs.now) c.args.places.now c.hear.new.places c.put.new.places c.args.order.now.items c.hear.new.order.items c.put.new.order.items
    c.args.event.now (c.in_ok-heard.ensures.next c.if-not-heard.false) c.in_ok-put.ensures.left c.in_ok-put.ensures.order c.in-Some.job (sym c.in-Some.ensures)
    c.put-in-Some.new.places c.put-in-Some.new.order.items c.in_ok-put-in-Some.ensures.left c.in_ok-put-in-Some.ensures.order
