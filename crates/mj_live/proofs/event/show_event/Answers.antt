use Rattle.mj_sys.specs.declared.event.Event.{Event}
use Rattle.mj_live.specs.Events.{IsShown, IsShownAt}
use Rattle.mj_live.proofs.Seen.{at_none, at_other, at_first, if_some}
use Rattle.mj_live.proofs.event.show_event.Goals as goal

pub returns-in_default : goal.returns-in_default
returns-in_default g c = at_none c.args.core.now.history c.args.place c.args.session (g.W.Write.contents c.args.out.now) c.in_default.ensures

pub returns-then-job-eq1 : goal.returns-then-job-eq1
returns-then-job-eq1 g c =
    let history = c.args.core.now.history in
    let e : Event = record { job = c.in-Some.job; ask = c.in-Some.ask.now; reply = c.in-Some.reply.now } in
    let old = g.W.Write.contents c.args.out.now in
    let new = g.W.Write.contents c.show_first.new.out in
    if_some c.show_first.result (λ behind. IsShown e.ask e.reply c.args.session old behind new) (λ behind. IsShownAt history c.args.place c.args.session old behind new)
    (λ behind shown. at_first history c.args.place c.args.session behind old new e c.in-Some.ensures c.if-job-eq1.true shown) c.show_first.ensures

pub returns-else-job-eq1 : goal.returns-else-job-eq1
returns-else-job-eq1 g c =
    let e : Event = record { job = c.in-Some.job; ask = c.in-Some.ask.now; reply = c.in-Some.reply.now } in
    at_other c.args.core.now.history c.args.place c.args.session (g.W.Write.contents c.args.out.now) e c.in-Some.ensures c.if-job-eq1.false
