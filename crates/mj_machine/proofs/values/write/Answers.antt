use Rattle.std.proofs.Common.{◌≡◌, ◌+◌, List, ℕ, reverse, ap, sym, ◌∙◌}
use Rattle.std.proofs.lemmas.Result.{IfOk-weaker}
use Rattle.mj_semantics.specs.Outcome.{Timed}
use Rattle.mj_semantics.specs.Commands.{write}
use Rattle.mj_pcode.specs.Machine.{Next, top, below}
use Rattle.mj_machine.specs.Kept.{stack_of, state_of, context_of, replied, without}
use Rattle.mj_machine.proofs.Operands.{below_is}
use Rattle.mj_machine.proofs.Asks.{does_as}
use Rattle.mj_machine.proofs.values.write.Goals as goal

pub returns-clause-ok : goal.returns-clause-ok
returns-clause-ok c =
    let old = c.args.machine.now in
    let st = stack_of old in
    let goes : Next → List ℕ → List (List ℕ) → Timed = λ next t l. write t (next (context_of old) (c.args.pc + 1) l) in
    let text : c.in_ok-text.text ≡ top st = c.in_ok-text.ensures ∙ c.top.ensures ∙ ap (λ l. top (reverse l)) c.deref.ensures.value in
    IfOk-weaker c.put_out.result _ _
    (λ step d all u. does_as (λ next. goes next (top st) (below st)) (λ next. write c.in_ok-text.text (without old c.args.pc 1 next)) old (replied c.args.given) step _
    (λ next n back replies. ap (λ l. goes next (top st) l n back (state_of old) replies) (below_is st) ∙ ap (λ t. write t (without old c.args.pc 1 next) n back (state_of old) replies) (sym text)) d)
    c.put_out.ensures.ok
