use Rattle.std.proofs.Common.{◌≡◌, true, refl, subst}
use Rattle.mj_ask.specs.declared.ask.Reply.{Reply}
use Rattle.mj_replica.specs.Playing.{IsToldOn}
use Rattle.mj_replica.proofs.playing.tell.Goals as goal

pub returns : goal.returns
returns c =
    let P : Reply → Type 0 = λ r. IsToldOn c.args.job.now c.args.ask.now r c.answer.new.self in
    (refl, subst P c.in_ok-told.ensures (c.answer.ensures.log c.args.ask.now c.requires.0, c.answer.ensures.run, c.answer.ensures.state))
