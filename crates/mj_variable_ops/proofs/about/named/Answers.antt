use Rattle.std.proofs.Common.{◌≡◌, ℕ, ◌+◌, List, Some, None, sym, ap, ◌∙◌, reverse}
use Rattle.std.specs.Prelude.{Ok, Err}
use Rattle.mj_machine.specs.Standing.{given_first}
use Rattle.mj_semantics.specs.Outcome.{given, fault}
use Rattle.mj_semantics.specs.Evaluation.{filled_for, named_for}
use Rattle.mj_pcode.specs.Machine.{operands}
use Rattle.mj_machine.specs.Kept.{restart_of, context_of, stack_of, state_of}
use Rattle.mj_machine.proofs.Asks.{does_as, given_is}
use Rattle.mj_variable_ops.specs.Answers.{no_name}
use Rattle.mj_variable_ops.proofs.Named.{name_with, not_named, is_named}
use Rattle.mj_variable_ops.proofs.about.named.Goals as goal

pub returns-in-Some-clause-ok : goal.returns-in-Some-clause-ok
returns-in-Some-clause-ok c = λ reply all u.
    let old = c.args.machine.now in
    let f = c.args.function in
    let r = c.args.reference.now in
    let ss : List (List ℕ) = operands r.count (stack_of old) in
    let under = c.topmost.ensures ∙ ap (λ l. operands r.count (reverse l)) c.deref.ensures.value in
    let no : no_name (filled_for f ss) ss ≡ Some c.in-Some.fault = sym (c.refusal_for.ensures ∙ ap (λ l. no_name (filled_for f l) l) under) ∙ c.in-Some.is in
    let is : named_for f r.scope r.word ss ≡ Err c.in-Some.fault = not_named r.scope r.word (filled_for f ss) ss c.in-Some.fault no in
    does_as (λ next. given (named_for f r.scope r.word ss) (λ x. next (context_of old) (c.args.pc + 1) (stack_of old))) (λ next. fault c.in-Some.fault)
    old reply c.fail.result c.fail.new.machine
    (λ next n back replies. given_is (named_for f r.scope r.word ss) (Err c.in-Some.fault) (λ x. next (context_of old) (c.args.pc + 1) (stack_of old)) n back (state_of old) replies is)
    (c.fail.ensures reply)

pub returns-clause-ok : goal.returns-clause-ok
returns-clause-ok c = λ reply all u.
    let old = c.args.machine.now in
    let f = c.args.function in
    let r = c.args.reference.now in
    let ss : List (List ℕ) = operands r.count (stack_of old) in
    let under = c.topmost.ensures ∙ ap (λ l. operands r.count (reverse l)) c.deref.ensures.value in
    let no : no_name (filled_for f ss) ss ≡ None = sym (c.refusal_for.ensures ∙ ap (λ l. no_name (filled_for f l) l) under) ∙ c.in_default.is in
    let is : named_for f r.scope r.word ss ≡ Ok (name_with r.scope r.word ss) = is_named r.scope r.word (filled_for f ss) ss no in (
      tt,
      λ next n handle replies. given_is (named_for f r.scope r.word ss)
          (Ok (name_with r.scope r.word ss)) (λ x. next (context_of old) (c.args.pc + 1) (stack_of old)) n (handle (restart_of old)) (state_of old) (given_first reply replies) is,
    )
