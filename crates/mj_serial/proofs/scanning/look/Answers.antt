use Rattle.std.proofs.Common.{ap, sym, ◌∙◌, refl, append-nil, set, None, Some}
use Rattle.mj_serial.proofs.Tables.{one_event}
use Rattle.mj_serial.proofs.scanning.look.Goals as goal

pub returns-in-None : goal.returns-in-None
returns-in-None c = λ h.
    one_event c.args.place h (record { job = c.args.job; ask = c.args.ask.now; reply = c.args.reply.now }) c.widen.new.table.items c.args.table.now.items c.put_back.new.table.items c.args.job
    c.take_out-stood.result c.in_ok-after.after None c.args.done.now.items c.args.done.now.items
    c.widen.ensures.same refl c.in_ok-widen.ensures.room c.take_out-stood.ensures.taken c.in_ok-after.ensures.after (sym c.in-None.is ∙ c.in_ok-after.ensures.done)
    (c.put_back.ensures ∙ ap (λ t. set t c.args.job c.in_ok-after.after) c.take_out-stood.ensures.left) (sym (append-nil c.args.done.now.items))

pub returns-in_ok-push-in-Some : goal.returns-in_ok-push-in-Some
returns-in_ok-push-in-Some c = λ h.
    one_event c.args.place h (record { job = c.args.job; ask = c.args.ask.now; reply = c.args.reply.now }) c.widen.new.table.items c.args.table.now.items c.put_back.new.table.items c.args.job
    c.take_out-stood.result c.in_ok-after.after (Some c.in-Some.block) c.args.done.now.items c.push.new.self.items
    c.widen.ensures.same refl c.in_ok-widen.ensures.room c.take_out-stood.ensures.taken c.in_ok-after.ensures.after (sym c.in-Some.is ∙ c.in_ok-after.ensures.done)
    (c.put_back.ensures ∙ ap (λ t. set t c.args.job c.in_ok-after.after) c.take_out-stood.ensures.left) c.in_ok-push-in-Some.ensures.items
