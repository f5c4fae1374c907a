use Rattle.mj_core.proofs.Owning.{within_long}
use Rattle.mj_refused.proofs.advanced.exchange.Goals as goal

pub returns : goal.returns
returns c =
    let image = c.args.image.now in
    let own = c.advance.ensures in
    (own.0, c.answer.ensures image own.0 (within_long image.bounds.limit c.in_ok-reply.reply c.requires.long) own.1)
