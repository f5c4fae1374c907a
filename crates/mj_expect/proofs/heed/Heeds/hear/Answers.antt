use Rattle.mj_expect.proofs.Hearing.{heard_so}
use Rattle.mj_expect.proofs.heed.Heeds.hear.Goals as goal

pub returns : goal.returns
returns c = λ log all. heard_so log c.args.self.now all c.args.ask.now c.args.reply.now c.requires c.take.new.self c.take.result c.take.ensures
