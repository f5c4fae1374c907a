use Rattle.std.proofs.Common.{◌∙◌}
use Rattle.mj_ast.specs.Commands.{meant}
use Rattle.mj_cmd.proofs.Follow.{refuses_from, room_for}
use Rattle.mj_cmd.proofs.FollowLines.{clause_is, step_written}
use Rattle.mj_cmd.proofs.command.step.Goals as goal

pub returns-in-Err-clause-reads : goal.returns-in-Err-clause-reads
returns-in-Err-clause-reads c = λ m r o.
    let h = c.in_ok-condition.ensures.reads m r o in
    (refuses_from c.args.phrases.limited c.in-Err.stop _ _ h.2
    (c.in-Err.ensures.reads m (room_for c.args.phrases.limited m c.args.tokens.now c.in_ok-condition.rest.now c.in_ok-condition.ensures.shorter r) o h.0))

pub returns-in-Ok-clause-reads : goal.returns-in-Ok-clause-reads
returns-in-Ok-clause-reads c = λ m r o.
    let h = c.in_ok-condition.ensures.reads m r o in
    let a = c.in-Ok.ensures.reads m (room_for c.args.phrases.limited m c.args.tokens.now c.in_ok-condition.rest.now c.in_ok-condition.ensures.shorter r) o h.0 in
    (clause_is h.0 (meant c.args.verb a.0) a.0, λ l. let i = a.1 l in step_written h.0 _ (meant c.args.verb a.0) a.0 _ (h.1 l) i.1 i.0, h.2 ∙ a.2)
