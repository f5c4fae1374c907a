use Rattle.std.proofs.Common.{◌≡◌, true, sym, subst}
use Rattle.mj_ask.specs.declared.ask.Ask.{Ask}
use Rattle.mj_ask.specs.Fits.{is_shared}
use Rattle.mj_core.proofs.Behind.{unmoved}
use Rattle.mj_core.proofs.Owning.{own_share}
use Rattle.mj_core.proofs.Stepping.{no_device, same_ask}
use Rattle.mj_core.proofs.parts.take_reply.Goals as goal

pub returns-clause-told : goal.returns-clause-told
returns-clause-told g c = λ a pending.
    let ans = g.A.Answerer.answering in
    let r = c.requires.told in
    let x = c.args.answerer.now in
    let P : Ask → Type 0 = λ b. is_shared b ≡ true in
    let shared : is_shared a ≡ true = subst P (same_ask c.args.job.now.run.pending r.0 a r.1 pending) r.2 in (
      (c.answer.ensures.log a pending, c.answer.ensures.run, c.answer.ensures.spent, c.answer.ensures.pending, c.answer.ensures.state),
      (λ of. ans.silent x c.args.job.now.run.log a c.args.reply (no_device a shared) of),
      (λ s none name has held. subst (λ b. ans.Has x name b) (sym (unmoved s name a has shared none)) held),
    )

pub returns-clause-own : goal.returns-clause-own
returns-clause-own g c = λ image claim own.
    let ans = g.A.Answerer.answering in
    let r = c.requires.told in
    let x = c.args.answerer.now in
    own_share ans image claim c.args.job.now x own c.answer.new.self x r.0 c.args.reply
    (c.answer.ensures.log r.0 r.1, c.answer.ensures.run, c.answer.ensures.spent, c.answer.ensures.pending, c.answer.ensures.state)
    (λ of. ans.silent x c.args.job.now.run.log r.0 c.args.reply (no_device r.0 r.2) of) r.2
