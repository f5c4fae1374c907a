use Rattle.std.proofs.Common.{◌≡◌, ℕ, ◌+◌, ◌∷◌, drop, List, None, refl, sym, ap, ◌∙◌, reverse}
use Rattle.std.specs.Prelude.{option_copied}
use Rattle.mj_text.specs.declared.fault.Fault.TheVariants.{Undefined}
use Rattle.mj_subs.specs.Name.{Name}
use Rattle.mj_store.specs.Questions.{value_at}
use Rattle.mj_semantics.specs.Outcome.{fault}
use Rattle.mj_semantics.specs.Evaluation.{read}
use Rattle.mj_pcode.specs.Machine.{operands}
use Rattle.mj_machine.specs.Kept.{context_of, stack_of, state_of}
use Rattle.mj_machine.proofs.Asks.{does_as}
use Rattle.mj_variable_ops.specs.Answers.{local_with}
use Rattle.mj_variable_ops.proofs.Accesses.{read_made}
use Rattle.mj_variable_ops.proofs.variables.read_under.Goals as goal

pub returns-in-None-clause-ok : goal.returns-in-None-clause-ok
returns-in-None-clause-ok c = λ reply.
    let old = c.args.machine.now in
    let ss : List (List ℕ) = operands c.args.count (stack_of old) in
    let x : Name = local_with c.args.word.now ss in
    let under = c.topmost-subscripts.ensures ∙ ap (λ l. operands c.args.count (reverse l)) c.deref.ensures.value in
    let none : value_at old.locals.now x ≡ None =
    sym (c.in_ok-value.ensures ∙ ap (λ (l : List (List ℕ)). value_at old.locals.now (local_with c.args.word.now l)) under) ∙ ap option_copied c.in-None.is in
    does_as (λ next. read x (λ v. next (context_of old) (c.args.pc + 1) (v ∷ drop c.args.count (stack_of old)))) (λ next. fault Undefined)
    old reply c.fail.result c.fail.new.machine
    (λ next n back replies. read_made x (λ v. next (context_of old) (c.args.pc + 1) (v ∷ drop c.args.count (stack_of old))) n back (state_of old) None replies refl none)
    (c.fail.ensures reply)
