use Rattle.std.proofs.Common.{◌≡◌, ◌∙◌, ◌==◌, Bool, true, false, Option, Some, None, sym, ap, if◌then◌else◌}
use Rattle.mj_core.specs.Kept.{shown_event}
use Rattle.mj_inspect.specs.Own.{own_event}
use Rattle.mj_inspect.proofs.own.own_event.Goals as goal

pub returns-then-is_same : goal.returns-then-is_same
returns-then-is_same g c =
    let on : true ≡ (c.in-Some.who == c.args.job) = sym (sym c.is_same.ensures ∙ c.if-is_same.true) in
    ap (λ (b : Bool). if b then Some (c.in-Some.ask.now, c.in-Some.reply.now) else None) on
    ∙ ap (own_event c.args.job) (sym (ap shown_event c.in-Some.is) ∙ c.event.ensures)

pub returns-else-is_same : goal.returns-else-is_same
returns-else-is_same g c =
    let off : false ≡ (c.in-Some.who == c.args.job) = sym (sym c.is_same.ensures ∙ c.if-is_same.false) in
    ap (λ (b : Bool). if b then Some (c.in-Some.ask.now, c.in-Some.reply.now) else None) off
    ∙ ap (own_event c.args.job) (sym (ap shown_event c.in-Some.is) ∙ c.event.ensures)

pub returns-in-None : goal.returns-in-None
returns-in-None g c = ap (own_event c.args.job) (sym (ap shown_event c.in-None.is) ∙ c.event.ensures)
