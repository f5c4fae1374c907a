use Rattle.std.proofs.Common.{◌≡◌, suc, Some, sym, ap, ◌∙◌, arith}
use Rattle.std.proofs.lemmas.Option.{slice_get-get_or}
use Rattle.mj_gather.specs.Lent.{lent}
use Rattle.mj_gather.proofs.Written.{written_none, stops_at, stops_past}
use Rattle.mj_gather.proofs.Putting.{put_more, put_written, put_left}
use Rattle.mj_gather.proofs.gathering.put_own.Goals as goal

pub entries-init : goal.entries-init
entries-init c = written_none (lent c.args.logs.now) c.args.job c.index-logs-at.result.now c.args.from c.args.order.now.items

pub entries-preserved : goal.entries-preserved
entries-preserved c =
    let log = c.index-logs-at.result in
    let here = slice_get-get_or c.args.logs.now c.args.at log c.requires.within ∙ ap Some (sym c.index-logs-at.is) in
    rw (c.in_ok-push.ensures.items, c.in-Some.ensures.next.1)
    (put_more c.args.logs.now c.args.job c.args.at log (let e : c.args.job ≡ suc c.args.at = omega arith in e) here c.args.from c.entries.place c.args.order.now.items
    c.entries.order.items c.entries.invariant _ c.in-Some.ensures.some (sym c.is_shared.ensures ∙ c.if-is_shared.false))

pub returns-then-is_shared-clause-written : goal.returns-then-is_shared-clause-written
returns-then-is_shared-clause-written c =
    let log = c.index-logs-at.result in
    let here = slice_get-get_or c.args.logs.now c.args.at log c.requires.within ∙ ap Some (sym c.index-logs-at.is) in
    put_written c.args.logs.now c.args.job c.args.at log (let e : c.args.job ≡ suc c.args.at = omega arith in e) here c.args.from c.entries.place c.args.order.now.items
    c.entries.order.items c.entries.invariant (stops_at log.now c.entries.place _ c.in-Some.ensures.some (sym c.is_shared.ensures ∙ c.if-is_shared.true))

pub returns-then-is_shared-clause-left : goal.returns-then-is_shared-clause-left
returns-then-is_shared-clause-left c =
    let log = c.index-logs-at.result in
    let here = slice_get-get_or c.args.logs.now c.args.at log c.requires.within ∙ ap Some (sym c.index-logs-at.is) in
    put_left c.args.logs.now c.args.job c.args.at log (let e : c.args.job ≡ suc c.args.at = omega arith in e) here c.args.from c.entries.place c.args.order.now.items
    c.entries.order.items c.entries.invariant (stops_at log.now c.entries.place _ c.in-Some.ensures.some (sym c.is_shared.ensures ∙ c.if-is_shared.true))

pub returns-clause-written : goal.returns-clause-written
returns-clause-written c =
    let log = c.index-logs-at.result in
    let here = slice_get-get_or c.args.logs.now c.args.at log c.requires.within ∙ ap Some (sym c.index-logs-at.is) in
    put_written c.args.logs.now c.args.job c.args.at log (let e : c.args.job ≡ suc c.args.at = omega arith in e) here c.args.from c.entries.place c.args.order.now.items
    c.entries.order.items c.entries.invariant (stops_past log.now c.entries.place c.in_default.ensures.none)

pub returns-clause-left : goal.returns-clause-left
returns-clause-left c =
    let log = c.index-logs-at.result in
    let here = slice_get-get_or c.args.logs.now c.args.at log c.requires.within ∙ ap Some (sym c.index-logs-at.is) in
    put_left c.args.logs.now c.args.job c.args.at log (let e : c.args.job ≡ suc c.args.at = omega arith in e) here c.args.from c.entries.place c.args.order.now.items
    c.entries.order.items c.entries.invariant (stops_past log.now c.entries.place c.in_default.ensures.none)
