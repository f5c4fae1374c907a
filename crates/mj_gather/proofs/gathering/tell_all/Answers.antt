use Rattle.std.proofs.Common.{List, refl, sym, ap, subst, arith}
use Rattle.std.proofs.lemmas.List.{drop_all, take_all}
use Rattle.mj_core.specs.declared.happened.Happened.{Happened}
use Rattle.mj_core.specs.Woven.{woven, AreThere}
use Rattle.mj_gather.specs.Lent.{lent, log_at, left_at}
use Rattle.mj_gather.proofs.Merging.{merged_begin, events_at, merged_next, differ_next, merged_last, agree_last, differ_last}
use Rattle.mj_gather.proofs.gathering.tell_all.Goals as goal

pub loop-at-init : goal.loop-at-init
loop-at-init g c =
    let logs = lent c.args.logs.now in
    let none : AreThere logs c.args.order.now.items = (let P : List Happened → Type 0 = λ o. AreThere logs o in subst P (sym c.requires.none) tt) in (
      c.put_firsts.ensures.all,
      c.put_firsts.ensures.there none,
      merged_begin g.O.Opening.opening (log_at logs) c.args.history.now c.args.jobs (left_at logs c.put_firsts.new.places) (left_at logs c.args.places.now)
          (woven logs c.args.order.now.items) (woven logs c.put_firsts.new.order.items) refl c.requires.first c.requires.begins c.in_ok-put_firsts.ensures.left
          (ap (woven logs) c.requires.none) c.in_ok-put_firsts.ensures.order,
    )

pub loop-at-preserved : goal.loop-at-preserved
loop-at-preserved g c =
    let logs = lent c.args.logs.now in
    let e = c.index-history-at.result in
    let told = c.in_ok-told.ensures in
    let yes = c.if-not-told.false in (
      c.tell.ensures.all,
      c.tell.ensures.there c.loop-at.invariant.1,
      merged_next g.O.Opening.opening (log_at logs) c.args.history.now c.args.jobs c.loop-at.at (left_at logs c.loop-at.places) (woven logs c.loop-at.order.items)
          c.loop-at.invariant.2 c.requires.served e _ (events_at c.args.history.now c.loop-at.at e c.loop-at-test.true c.index-history-at.is)
          (left_at logs c.tell.new.places) (woven logs c.tell.new.order.items) (told.head yes) (told.left yes) (told.order yes),
    )

pub returns-then-not-told-clause-differ : goal.returns-then-not-told-clause-differ
returns-then-not-told-clause-differ g c =
    let logs = lent c.args.logs.now in
    let e = c.index-history-at.result in
    differ_next g.O.Opening.opening (log_at logs) c.args.history.now c.args.jobs c.loop-at.at (left_at logs c.loop-at.places) (woven logs c.loop-at.order.items)
    c.loop-at.invariant.2 c.requires.served e _ (events_at c.args.history.now c.loop-at.at e c.loop-at-test.true c.index-history-at.is)
    (c.in_ok-told.ensures.other c.if-not-told.true) c.count_events.result c.count_events.ensures.count

pub returns-in-Some-clause-differ : goal.returns-in-Some-clause-differ
returns-in-Some-clause-differ g c =
    let logs = lent c.args.logs.now in
    differ_last g.O.Opening.opening (log_at logs) c.args.history.now c.args.jobs c.loop-at.at (left_at logs c.loop-at.places) (woven logs c.loop-at.order.items)
    c.loop-at.invariant.2 (drop_all c.loop-at.at c.args.history.now c.loop-at-test.false) (take_all c.loop-at.at c.args.history.now c.loop-at-test.false)
    c.in-Some.job (let some = c.in-Some.ensures.some.0 in omega (arith, some, c.requires.all)) c.in-Some.ensures.some.1 c.count_events-in-Some.result c.count_events-in-Some.ensures.count

pub returns-in-None-clause-order : goal.returns-in-None-clause-order
returns-in-None-clause-order g c =
    let logs = lent c.args.logs.now in
    merged_last g.O.Opening.opening (log_at logs) c.args.history.now c.args.jobs c.loop-at.at (left_at logs c.loop-at.places) (woven logs c.loop-at.order.items)
    c.loop-at.invariant.2 (drop_all c.loop-at.at c.args.history.now c.loop-at-test.false) (take_all c.loop-at.at c.args.history.now c.loop-at-test.false)

pub returns-in-None-clause-agree : goal.returns-in-None-clause-agree
returns-in-None-clause-agree g c =
    let logs = lent c.args.logs.now in
    agree_last g.O.Opening.opening (log_at logs) c.args.history.now c.args.jobs c.loop-at.at (left_at logs c.loop-at.places) (woven logs c.loop-at.order.items)
    c.loop-at.invariant.2 (drop_all c.loop-at.at c.args.history.now c.loop-at-test.false) (take_all c.loop-at.at c.args.history.now c.loop-at-test.false)
    c.in-None.ensures.none
