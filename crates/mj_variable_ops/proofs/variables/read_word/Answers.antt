use Rattle.std.proofs.Common.{◌≡◌, ◌+◌, ◌∷◌, drop, None, refl, sym, ap, ◌∙◌}
use Rattle.std.specs.Prelude.{option_copied}
use Rattle.mj_text.specs.declared.fault.Fault.TheVariants.{Undefined}
use Rattle.mj_store.specs.Questions.{value_at}
use Rattle.mj_semantics.specs.State.{plain_name}
use Rattle.mj_semantics.specs.Outcome.{fault}
use Rattle.mj_semantics.specs.Evaluation.{read}
use Rattle.mj_machine.specs.Kept.{context_of, stack_of, state_of}
use Rattle.mj_machine.proofs.Asks.{does_as}
use Rattle.mj_variable_ops.proofs.Accesses.{read_made}
use Rattle.mj_variable_ops.proofs.variables.read_word.Goals as goal

pub returns-in-None-clause-ok : goal.returns-in-None-clause-ok
returns-in-None-clause-ok c = λ reply.
    let old = c.args.machine.now in
    let x = plain_name c.args.word.now in
    let none : value_at old.locals.now x ≡ None = sym c.value_of_word.ensures ∙ ap option_copied c.in-None.is in
    does_as (λ next. read x (λ v. next (context_of old) (c.args.pc + 1) (v ∷ drop 0 (stack_of old)))) (λ next. fault Undefined)
    old reply c.fail.result c.fail.new.machine
    (λ next n back replies. read_made x (λ v. next (context_of old) (c.args.pc + 1) (v ∷ drop 0 (stack_of old))) n back (state_of old) None replies refl none)
    (c.fail.ensures reply)
