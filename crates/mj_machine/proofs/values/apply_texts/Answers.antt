use Rattle.std.proofs.Common.{◌≡◌, ◌+◌, ◌∷◌, List, ℕ, reverse, ap, ◌∙◌, subst}
use Rattle.std.specs.Prelude.{Result}
use Rattle.mj_text.specs.declared.fault.Fault.{Fault}
use Rattle.mj_text.specs.Failing.{Answers}
use Rattle.mj_text.specs.declared.limit.Limit.{Limit}
use Rattle.mj_oper.specs.Operators.{binary_value}
use Rattle.mj_semantics.specs.Outcome.{Timed, given}
use Rattle.mj_pcode.specs.Machine.{Next, top, below}
use Rattle.mj_machine.specs.declared.machine.TurnOutcome.TheVariants as steps
use Rattle.mj_machine.specs.Kept.{stack_of, state_of, context_of, with_value}
use Rattle.mj_machine.proofs.Operands.{below_twice}
use Rattle.mj_machine.proofs.Asks.{does_as, or_memory}
use Rattle.mj_machine.proofs.values.apply_texts.Goals as goal

pub returns-clause-ok : goal.returns-clause-ok
returns-clause-ok c = λ reply all u.
    let old = c.args.machine.now in
    let limit : Limit = old.bounds.limit in
    let l : c.second.result.now ≡ top (below (stack_of old)) = c.second.ensures ∙ ap (λ l. top (below (reverse l))) c.deref.ensures.value in
    let r : c.top.result.now ≡ top (stack_of old) = c.top.ensures ∙ ap (λ l. top (reverse l)) c.deref-2.ensures.value in
    let w : Result (List ℕ) Fault = binary_value limit c.args.op (top (below (stack_of old))) (top (stack_of old)) in
    let P : List ℕ → Type 0 = λ x. Answers (binary_value limit c.args.op x c.top.result.now) c.binary-value.result in
    let Q : List ℕ → Type 0 = λ x. Answers (binary_value limit c.args.op (top (below (stack_of old))) x) c.binary-value.result in
    let goes : Next → List (List ℕ) → Timed = λ next l. given w (λ v. next (context_of old) (c.args.pc + 1) (v ∷ l)) in
    does_as (λ next. goes next (below (below (stack_of old)))) (λ next. given w (with_value old c.args.pc 2 next)) old reply steps.Next c.put_value.new.machine
    (λ next n back replies. ap (λ l. goes next l n back (state_of old) replies) (below_twice (stack_of old)))
    (c.in_ok-put_value.ensures.ok w (or_memory _ c.binary-value.result (subst Q r (subst P l c.binary-value.ensures))) reply)
