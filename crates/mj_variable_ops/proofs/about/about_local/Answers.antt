use Rattle.std.proofs.Common.{◌≡◌, ℕ, ◌+◌, ◌-◌, ◌∷◌, drop, List, Some, None, refl, sym, ap, ◌∙◌, reverse}
use Rattle.std.specs.Prelude.{Option, Result, Ok, Err, option_copied}
use Rattle.mj_text.specs.declared.fault.Fault.{Fault}
use Rattle.mj_text.specs.declared.limit.Limit.{Limit}
use Rattle.mj_ast.specs.declared.expr.Scope.{Scope}
use Rattle.mj_subs.specs.Name.{Name}
use Rattle.mj_semantics.specs.Functions.{optional}
use Rattle.mj_semantics.specs.Outcome.{Timed, given, fault}
use Rattle.mj_semantics.specs.Evaluation.{filled_for, named_for, about}
use Rattle.mj_pcode.specs.Machine.{Next, operands}
use Rattle.mj_machine.specs.declared.machine.TurnOutcome.TheVariants as steps
use Rattle.mj_machine.specs.Kept.{context_of, stack_of, state_of}
use Rattle.mj_machine.proofs.Asks.{does_as, given_is}
use Rattle.mj_variable_ops.specs.Answers.{no_name, local_with}
use Rattle.mj_variable_ops.specs.Asked.{told_among}
use Rattle.mj_variable_ops.proofs.Accesses.{about_local, asks_too}
use Rattle.mj_variable_ops.proofs.Named.{name_with, not_named, is_named}
use Rattle.mj_variable_ops.proofs.about.about_local.Goals as goal

pub returns-in-Some-clause-ok : goal.returns-in-Some-clause-ok
returns-in-Some-clause-ok c = λ reply all u.
    let old = c.args.machine.now in
    let f = c.args.function in
    let r = c.args.reference.now in
    let k = c.args.count - r.count in
    let ss : List (List ℕ) = operands r.count (drop k (stack_of old)) in
    let rest : Next → List ℕ → Timed = λ next v. next (context_of old) (c.args.pc + 1) (v ∷ drop c.args.count (stack_of old)) in
    let whole : Next → Name → Timed = λ next x. about f x (optional 0 (operands k (stack_of old))) (rest next) in
    let under = c.topmost-subscripts.ensures ∙ ap (operands r.count) (c.under.ensures ∙ ap (λ l. drop k (reverse l)) c.deref.ensures.value) in
    let no : no_name (filled_for f ss) ss ≡ Some c.in-Some.fault = sym (c.refusal_for.ensures ∙ ap (λ l. no_name (filled_for f l) l) under) ∙ c.in-Some.is in
    let is : named_for f r.scope r.word ss ≡ Err c.in-Some.fault = not_named r.scope r.word (filled_for f ss) ss c.in-Some.fault no in
    does_as (λ next. given (named_for f r.scope r.word ss) (whole next)) (λ next. fault c.in-Some.fault)
    old reply c.fail.result c.fail.new.machine
    (λ next n back replies. given_is (named_for f r.scope r.word ss) (Err c.in-Some.fault) (whole next) n back (state_of old) replies is)
    (c.fail.ensures reply)

pub returns-clause-ok : goal.returns-clause-ok
returns-clause-ok c = λ reply all u.
    let old = c.args.machine.now in
    let f = c.args.function in
    let r = c.args.reference.now in
    let k = c.args.count - r.count in
    let ss : List (List ℕ) = operands r.count (drop k (stack_of old)) in
    let x : Name = local_with r.word ss in
    let o : Option (List ℕ) = optional 0 (operands k (stack_of old)) in
    let rest : Next → List ℕ → Timed = λ next v. next (context_of old) (c.args.pc + 1) (v ∷ drop c.args.count (stack_of old)) in
    let whole : Next → Name → Timed = λ next y. about f y o (rest next) in
    let under = c.topmost-subscripts.ensures ∙ ap (operands r.count) (c.under.ensures ∙ ap (λ l. drop k (reverse l)) c.deref.ensures.value) in
    let no : no_name (filled_for f ss) ss ≡ None = sym (c.refusal_for.ensures ∙ ap (λ l. no_name (filled_for f l) l) under) ∙ c.in_default.is in
    let is : named_for f r.scope r.word ss ≡ Ok x = is_named r.scope r.word (filled_for f ss) ss no ∙ ap (λ (s : Scope). Ok (name_with s r.word ss)) c.requires.local in
    let other : option_copied c.foremost-other.result ≡ o = c.foremost-other.ensures ∙ ap (optional 0) (c.topmost.ensures ∙ ap (λ l. operands k (reverse l)) c.deref-2.ensures.value) in
    let limit : Limit = old.bounds.limit in
    let told : Result (List ℕ) Fault = told_among limit f (local_with r.word c.topmost-subscripts.result.now) (option_copied c.foremost-other.result) (state_of old).locals in
    let same : told ≡ told_among limit f x o (state_of old).locals = λ i. told_among limit f (local_with r.word (under i)) (other i) (state_of old).locals in
    does_as (λ next. given (named_for f r.scope r.word ss) (whole next)) (λ next. given told (rest next)) old reply steps.Next c.put_value.new.machine
    (λ next n back replies. given_is (named_for f r.scope r.word ss) (Ok x) (whole next) n back (state_of old) replies is
    ∙ about_local f x o (rest next) n back (state_of old) replies refl (asks_too f c.requires.tells)
    ∙ ap (λ w. given w (rest next) n back (state_of old) replies) (sym same))
    (c.in_ok-put_value.ensures.ok told (c.told_under-value.ensures limit) reply)
