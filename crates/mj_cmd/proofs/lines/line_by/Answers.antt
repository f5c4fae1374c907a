use Rattle.std.proofs.Common.{◌∙◌, ◌+◌, refl, true, arith}
use Rattle.mj_cmd.proofs.Follow.{ends_as_err, refuses_from, room_for}
use Rattle.mj_cmd.proofs.Front.{head_of, line_written}
use Rattle.mj_cmd.proofs.lines.line_by.Goals as goal

pub returns-in_err-dots : goal.returns-in_err-dots
returns-in_err-dots c = λ m r.
    let h = c.in_ok-label.ensures.reads m true in
    let o = head_of c.in_ok-label.label c.in_ok-label.formals.items 1 in
    ends_as_err c.args.phrases.limited _ c.from_residual-in_err-dots.result c.in_err-dots.field-0.0 m c.args.tokens.now _ _ c.from_residual-in_err-dots.ensures.1
    (refuses_from c.args.phrases.limited c.in_err-dots.field-0.0 _ _ h.2
    (c.in_err-dots.ensures.reads m c.args.phrases.limited h.0 o (h.1 refl) c.is_some.ensures))

pub returns-in_err-steps : goal.returns-in_err-steps
returns-in_err-steps c = λ m r.
    let h = c.in_ok-label.ensures.reads m true in
    let o = head_of c.in_ok-label.label c.in_ok-label.formals.items 1 in
    let i = c.in_ok-dots.ensures.reads m true h.0 o (h.1 refl) c.is_some.ensures in
    ends_as_err c.args.phrases.limited _ c.from_residual-in_err-steps.result c.in_err-steps.field-0.0 m c.args.tokens.now _ _ c.from_residual-in_err-steps.ensures.1
    (refuses_from c.args.phrases.limited c.in_err-steps.field-0.0 _ _ (h.2 ∙ i.2)
    (c.in_err-steps.ensures m (room_for c.args.phrases.limited m c.args.tokens.now c.in_ok-dots.rest.now
    (omega (arith, c.in_ok-dots.ensures.count, c.in_ok-label.ensures.shorter)) r) (head_of c.in_ok-label.label c.in_ok-label.formals.items (i.0 + 1))))

pub returns : goal.returns
returns c = λ m r.
    let h = c.in_ok-label.ensures.reads m true in
    let o = head_of c.in_ok-label.label c.in_ok-label.formals.items 1 in
    let i = c.in_ok-dots.ensures.reads m true h.0 o (h.1 refl) c.is_some.ensures in
    let s = c.in_ok-steps.ensures m (room_for c.args.phrases.limited m c.args.tokens.now c.in_ok-dots.rest.now
    (omega (arith, c.in_ok-dots.ensures.count, c.in_ok-label.ensures.shorter)) r) (head_of c.in_ok-label.label c.in_ok-label.formals.items (i.0 + 1)) in (
      record { label = c.in_ok-label.label; formals = c.in_ok-label.formals.items; level = i.0 + 1; clauses = s.0 },
      λ e. line_written c.in_ok-label.label c.in_ok-label.formals.items i.0 c.in_ok-dots.dots s.0 _ (i.1 refl) (s.1 e),
      h.2 ∙ i.2 ∙ s.2,
    )
