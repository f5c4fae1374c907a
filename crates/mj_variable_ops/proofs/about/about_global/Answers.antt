use Rattle.std.proofs.Common.{◌≡◌, ℕ, ◌+◌, ◌-◌, ◌∷◌, drop, List, Option, Some, None, refl, sym, ap, ◌∙◌, reverse, subst}
use Rattle.std.specs.Prelude.{Ok, Err}
use Rattle.std.proofs.lemmas.Result.{IfOk-weaker}
use Rattle.mj_ast.specs.declared.expr.Scope.{Scope}
use Rattle.mj_subs.specs.Name.{Name}
use Rattle.mj_semantics.specs.Functions.{optional}
use Rattle.mj_semantics.specs.Outcome.{Timed, given, fault}
use Rattle.mj_semantics.specs.Evaluation.{filled_for, named_for, about}
use Rattle.mj_pcode.specs.Machine.{Next, operands}
use Rattle.mj_machine.specs.Kept.{context_of, stack_of, state_of, replied, Does}
use Rattle.mj_machine.proofs.Asks.{does_as, given_is}
use Rattle.mj_variable_ops.specs.Answers.{no_name, global_with}
use Rattle.mj_variable_ops.proofs.Named.{name_with, not_named, is_named, few_named}
use Rattle.mj_variable_ops.proofs.about.about_global.Goals as goal

pub returns-in-Some-clause-ok : goal.returns-in-Some-clause-ok
returns-in-Some-clause-ok c = λ all u.
    let old = c.args.machine.now in
    let f = c.args.function in
    let r = c.args.reference.now in
    let k = c.args.count - r.count in
    let ss : List (List ℕ) = operands r.count (drop k (stack_of old)) in
    let x : Name = global_with r.word ss in
    let o : Option (List ℕ) = optional 0 (operands k (stack_of old)) in
    let rest : Next → List ℕ → Timed = λ next v. next (context_of old) (c.args.pc + 1) (v ∷ drop c.args.count (stack_of old)) in
    let whole : Next → Name → Timed = λ next y. about f y o (rest next) in
    let under = c.topmost-subscripts.ensures ∙ ap (operands r.count) (c.under.ensures ∙ ap (λ l. drop k (reverse l)) c.deref.ensures.value) in
    let no : no_name (filled_for f ss) ss ≡ Some c.in-Some.fault = sym (c.refusal_for.ensures ∙ ap (λ l. no_name (filled_for f l) l) under) ∙ c.in-Some.is in
    let is : named_for f r.scope r.word ss ≡ Err c.in-Some.fault = not_named r.scope r.word (filled_for f ss) ss c.in-Some.fault no in
    does_as (λ next. given (named_for f r.scope r.word ss) (whole next)) (λ next. fault c.in-Some.fault)
    old (replied c.args.given) c.fail.result c.fail.new.machine
    (λ next n back replies. given_is (named_for f r.scope r.word ss) (Err c.in-Some.fault) (whole next) n back (state_of old) replies is)
    (c.fail.ensures (replied c.args.given))

pub returns-in-None-clause-ok : goal.returns-in-None-clause-ok
returns-in-None-clause-ok c =
    let old = c.args.machine.now in
    let f = c.args.function in
    let r = c.args.reference.now in
    let k = c.args.count - r.count in
    let ss : List (List ℕ) = operands r.count (drop k (stack_of old)) in
    let x : Name = global_with r.word ss in
    let o : Option (List ℕ) = optional 0 (operands k (stack_of old)) in
    let rest : Next → List ℕ → Timed = λ next v. next (context_of old) (c.args.pc + 1) (v ∷ drop c.args.count (stack_of old)) in
    let whole : Next → Name → Timed = λ next y. about f y o (rest next) in
    let under = c.topmost-subscripts.ensures ∙ ap (operands r.count) (c.under.ensures ∙ ap (λ l. drop k (reverse l)) c.deref.ensures.value) in
    let no : no_name (filled_for f ss) ss ≡ None = sym (c.refusal_for.ensures ∙ ap (λ l. no_name (filled_for f l) l) under) ∙ c.in_default.is in
    let is : named_for f r.scope r.word ss ≡ Ok x = is_named r.scope r.word (filled_for f ss) ss no ∙ ap (λ (s : Scope). Ok (name_with s r.word ss)) c.requires.global in
    IfOk-weaker c.ask_about.result _ _
    (λ step d all u. does_as (λ next. given (named_for f r.scope r.word ss) (whole next)) (λ next. whole next x) old (replied c.args.given) step _
    (λ next n back replies. given_is (named_for f r.scope r.word ss) (Ok x) (whole next) n back (state_of old) replies is)
    (d (replied c.args.given) c.in-None.ensures.none rest))
    c.ask_about.ensures.ok

pub returns-in-Some-at_hand-clause-ok : goal.returns-in-Some-at_hand-clause-ok
returns-in-Some-at_hand-clause-ok c =
    let old = c.args.machine.now in
    let f = c.args.function in
    let r = c.args.reference.now in
    let k = c.args.count - r.count in
    let ss : List (List ℕ) = operands r.count (drop k (stack_of old)) in
    let x : Name = global_with r.word ss in
    let o : Option (List ℕ) = optional 0 (operands k (stack_of old)) in
    let rest : Next → List ℕ → Timed = λ next v. next (context_of old) (c.args.pc + 1) (v ∷ drop c.args.count (stack_of old)) in
    let whole : Next → Name → Timed = λ next y. about f y o (rest next) in
    let under = c.topmost-subscripts.ensures ∙ ap (operands r.count) (c.under.ensures ∙ ap (λ l. drop k (reverse l)) c.deref.ensures.value) in
    let no : no_name (filled_for f ss) ss ≡ None = sym (c.refusal_for.ensures ∙ ap (λ l. no_name (filled_for f l) l) under) ∙ c.in_default.is in
    let is : named_for f r.scope r.word ss ≡ Ok x = is_named r.scope r.word (filled_for f ss) ss no ∙ ap (λ (s : Scope). Ok (name_with s r.word ss)) c.requires.global in
    IfOk-weaker c.take_about.result _ _
    (λ step d all u. does_as (λ next. given (named_for f r.scope r.word ss) (whole next)) (λ next. whole next x) old (replied c.args.given) step _
    (λ next n back replies. given_is (named_for f r.scope r.word ss) (Ok x) (whole next) n back (state_of old) replies is)
    (subst (λ q. Does (λ next. whole next x) old q step c.take_about.new.machine) (sym c.in-Some-at_hand.ensures.some.0) (d x refl)))
    c.take_about.ensures.ok

pub ask_about-requires-clause-few : goal.ask_about-requires-clause-few
ask_about-requires-clause-few c =
    let old = c.args.machine.now in
    let f = c.args.function in
    let r = c.args.reference.now in
    let k = c.args.count - r.count in
    let ss : List (List ℕ) = operands r.count (drop k (stack_of old)) in
    let x : Name = global_with r.word ss in
    let o : Option (List ℕ) = optional 0 (operands k (stack_of old)) in
    let rest : Next → List ℕ → Timed = λ next v. next (context_of old) (c.args.pc + 1) (v ∷ drop c.args.count (stack_of old)) in
    let whole : Next → Name → Timed = λ next y. about f y o (rest next) in
    let under = c.topmost-subscripts.ensures ∙ ap (operands r.count) (c.under.ensures ∙ ap (λ l. drop k (reverse l)) c.deref.ensures.value) in
    let no : no_name (filled_for f ss) ss ≡ None = sym (c.refusal_for.ensures ∙ ap (λ l. no_name (filled_for f l) l) under) ∙ c.in_default.is in
    few_named (filled_for f ss) ss no
