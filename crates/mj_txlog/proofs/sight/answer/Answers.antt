use Rattle.std.proofs.lemmas.Result.{IfOk-weaker}
use Rattle.mj_txlog.proofs.sight.answer.Goals as goal

pub returns-in_default : goal.returns-in_default
returns-in_default c = record {
  answer = IfOk-weaker c.seen_answer.result _ _ (λ a h. h c.args.earlier.now c.requires.own) c.seen_answer.ensures.answer;
  skips = c.seen_answer.ensures.skips c.args.earlier.now c.requires.own;
}
