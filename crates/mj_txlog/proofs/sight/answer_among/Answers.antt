use Rattle.std.proofs.lemmas.Result.{IfOk-weaker}
use Rattle.mj_txlog.proofs.Looks.{answer_below}
use Rattle.mj_txlog.proofs.sight.answer_among.Goals as goal

pub returns : goal.returns
returns c = IfOk-weaker c.look-found.result _ _
    (λ out h es laid. answer_below c.args.read.now c.args.reach.now c.in_ok-below.below c.args.globals.now es out c.requires.read c.rises-2.ensures c.rises.ensures c.requires.reach
    (c.in_ok-below.ensures es laid) h)
    c.look-found.ensures
