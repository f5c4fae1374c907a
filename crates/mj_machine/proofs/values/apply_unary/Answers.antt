use Rattle.std.proofs.Common.{◌≡◌, ◌+◌, ◌∷◌, List, ℕ, reverse, ap, ◌∙◌}
use Rattle.std.specs.Prelude.{Result}
use Rattle.mj_text.specs.declared.fault.Fault.{Fault}
use Rattle.mj_text.specs.Failing.{failing}
use Rattle.mj_oper.specs.Operators.{unary_value}
use Rattle.mj_semantics.specs.Outcome.{Timed, given}
use Rattle.mj_pcode.specs.Machine.{Next, top, below}
use Rattle.mj_machine.specs.declared.machine.TurnOutcome.TheVariants as steps
use Rattle.mj_machine.specs.Kept.{stack_of, state_of, context_of, with_value}
use Rattle.mj_machine.proofs.Operands.{below_is}
use Rattle.mj_machine.proofs.Asks.{does_as, answers_failing, or_memory}
use Rattle.mj_machine.proofs.values.apply_unary.Goals as goal

pub returns-clause-ok : goal.returns-clause-ok
returns-clause-ok c = λ reply all u.
    let old = c.args.machine.now in
    let t : c.top.result.now ≡ top (stack_of old) = c.top.ensures ∙ ap (λ l. top (reverse l)) c.deref.ensures.value in
    let r : Result (List ℕ) Fault = unary_value c.args.op (top (stack_of old)) in
    let goes : Next → List (List ℕ) → Timed = λ next l. given r (λ v. next (context_of old) (c.args.pc + 1) (v ∷ l)) in
    does_as (λ next. goes next (below (stack_of old))) (λ next. given r (with_value old c.args.pc 1 next)) old reply steps.Next c.put_value.new.machine
    (λ next n back replies. ap (λ l. goes next l n back (state_of old) replies) (below_is (stack_of old)))
    (c.in_ok-put_value.ensures.ok r (or_memory _ c.unary-value.result (answers_failing _ c.unary-value.result (c.unary-value.ensures ∙ ap (λ x. failing (unary_value c.args.op x)) t))) reply)
