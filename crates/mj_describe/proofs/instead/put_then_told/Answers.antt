use Rattle.std.proofs.Common.{Option, Bor, codes, option_copied, ap, sym}
use Rattle.mj_ask.specs.declared.ask.Reply.{Reply}
use Rattle.mj_trace.specs.Spelling.{reply_text}
use Rattle.mj_describe.specs.Words.{then_told}
use Rattle.mj_describe.proofs.Putting.{put_last}
use Rattle.mj_describe.proofs.instead.put_then_told.Goals as goal

pub returns : goal.returns
returns c =
    put_last c.put_reply.result c.args.bytes.now.items c.put.new.bytes.items (codes ", and is told ") c.put_reply.new.bytes.items (reply_text c.in-Some.reply.now)
    (then_told (option_copied c.args.told)) c.in_ok-put.ensures (ap (λ (o : Option (Bor Reply)). then_told (option_copied o)) (sym c.in-Some.is)) c.put_reply.ensures.ok
