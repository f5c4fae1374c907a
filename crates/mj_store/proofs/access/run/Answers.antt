use Rattle.std.proofs.Common.{◌∙◌}
use Rattle.mj_store.proofs.Runs.{after_next, answers_next, on_err_always}
use Rattle.mj_store.proofs.access.run.Goals as goal

-- the answer found no room, and its access has been made
pub returns-in_err-push-clause-front : goal.returns-in_err-push-clause-front
returns-in_err-push-clause-front g c =
    on_err_always c.from_residual-in_err-push.result (_, after_next _ _ _ _ _ _ c.loop-access-test.true c.access-item.is c.loop-access.invariant.content c.in_ok-answer.ensures.content)

pub loop-access-preserved : goal.loop-access-preserved
loop-access-preserved g c = record {
  answered =
      rw (c.in_ok-push.ensures.items, c.in_ok-answer.ensures.answer) (answers_next _ _ _ _ _ _ c.loop-access-test.true c.access-item.is c.in_ok-answer.ensures.content
      ∙ c.loop-access.invariant.answered);
  content = after_next _ _ _ _ _ _ c.loop-access-test.true c.access-item.is c.loop-access.invariant.content c.in_ok-answer.ensures.content;
}
