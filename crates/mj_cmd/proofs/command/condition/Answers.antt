use Rattle.std.proofs.Common.{◌∙◌, sym, Some, None, ap, refl, arith}
use Rattle.mj_lex.specs.Seen.{tokens_seen}
use Rattle.mj_line.specs.Machine.{Condition}
use Rattle.mj_cmd.proofs.Follow.{reads_err, refuses_from, room_for}
use Rattle.mj_cmd.proofs.FollowLines.{colon_opens, unconditional}
use Rattle.mj_cmd.proofs.command.condition.Goals as goal

pub returns-in_ok-condition-in-Some-clause-reads : goal.returns-in_ok-condition-in-Some-clause-reads
returns-in_ok-condition-in-Some-clause-reads c = λ m r o.
    let e = c.in_ok-condition-in-Some.ensures.reads m (room_for c.args.phrases.limited m c.args.tokens.now c.in-Some.behind.now
    (omega (arith, c.in-Some.ensures.1)) r) (Condition o c.args.verb) refl tt in (
      Some e.0,
      λ l. ap Some (e.1 l),
      colon_opens m o c.args.verb (tokens_seen c.args.tokens.now) (tokens_seen c.in-Some.behind.now) c.in-Some.ensures.0
          (sym c.is_conditional.ensures ∙ c.if-not-is_conditional.false) ∙ e.2,
    )

pub returns-in_err-condition-in-Some-clause-reads : goal.returns-in_err-condition-in-Some-clause-reads
returns-in_err-condition-in-Some-clause-reads c = λ m r o.
    reads_err c.args.phrases.limited _ _ c.from_residual.result c.in_err-condition-in-Some.field-0.0 m c.args.tokens.now _ _ c.from_residual.ensures.1
    (refuses_from c.args.phrases.limited c.in_err-condition-in-Some.field-0.0 _ _
    (colon_opens m o c.args.verb (tokens_seen c.args.tokens.now) (tokens_seen c.in-Some.behind.now) c.in-Some.ensures.0 (sym c.is_conditional.ensures ∙
    c.if-not-is_conditional.false))
    (c.in_err-condition-in-Some.ensures.reads m (room_for c.args.phrases.limited m c.args.tokens.now c.in-Some.behind.now (omega (arith, c.in-Some.ensures.1)) r) (Condition o c.args.verb) refl tt))

pub returns-then-not-is_conditional-clause-reads : goal.returns-then-not-is_conditional-clause-reads
returns-then-not-is_conditional-clause-reads c = λ m r o. (None, λ l. refl, unconditional m o c.args.verb (tokens_seen c.args.tokens.now) (sym c.is_conditional.ensures ∙ c.if-not-is_conditional.true))
