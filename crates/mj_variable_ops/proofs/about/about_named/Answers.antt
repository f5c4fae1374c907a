use Rattle.std.proofs.Common.{◌≡◌, ◌+◌, ◌-◌, ◌∷◌, drop, sym, ap, ◌∙◌, ℕ, List, reverse}
use Rattle.std.specs.Prelude.{Ok, Err, option_copied}
use Rattle.std.proofs.lemmas.Result.{IfOk-weaker}
use Rattle.mj_subs.specs.Name.{Name}
use Rattle.mj_semantics.specs.Functions.{optional}
use Rattle.mj_semantics.specs.Outcome.{Timed, given, fault}
use Rattle.mj_semantics.specs.Evaluation.{is_global, filled_for, named_for, about}
use Rattle.mj_pcode.specs.Machine.{Next, operands}
use Rattle.mj_machine.specs.Kept.{context_of, stack_of, state_of}
use Rattle.mj_machine.proofs.Asks.{does_as, given_is}
use Rattle.mj_variable_ops.proofs.Named.{named_kind}
use Rattle.mj_variable_ops.proofs.about.about_named.Goals as goal

pub returns-in-Err-clause-ok : goal.returns-in-Err-clause-ok
returns-in-Err-clause-ok c = λ reply all u.
    let old = c.args.machine.now in
    let f = c.args.function in
    let r = c.args.reference.now in
    let k = c.args.count - r.count in
    let rest : Next → List ℕ → Timed = λ next v. next (context_of old) (c.args.pc + 1) (v ∷ drop c.args.count (stack_of old)) in
    let whole : Next → Name → Timed = λ next x. about f x (optional 0 (operands k (stack_of old))) (rest next) in
    let under = c.topmost-subscripts.ensures
    ∙ ap (operands r.count) (c.under.ensures ∙ ap (λ l. drop k (reverse l)) c.deref.ensures.value) in
    let is : named_for f r.scope r.word (operands r.count (drop k (stack_of old))) ≡ Err c.in-Err.fault =
    sym (c.in_ok-name.ensures ∙ ap (named_for f r.scope r.word) under) ∙ c.in-Err.is in
    does_as (λ next. given (named_for f r.scope r.word (operands r.count (drop k (stack_of old)))) (whole next)) (λ next. fault c.in-Err.fault)
    old reply c.fail.result c.fail.new.machine
    (λ next n back replies. given_is (named_for f r.scope r.word (operands r.count (drop k (stack_of old)))) (Err c.in-Err.fault) (whole next) n back (state_of old) replies is)
    (c.fail.ensures reply)

pub returns-clause-ok : goal.returns-clause-ok
returns-clause-ok c =
    let old = c.args.machine.now in
    let f = c.args.function in
    let r = c.args.reference.now in
    let k = c.args.count - r.count in
    let x = c.in-Ok.name in
    let rest : Next → List ℕ → Timed = λ next v. next (context_of old) (c.args.pc + 1) (v ∷ drop c.args.count (stack_of old)) in
    let whole : Next → Name → Timed = λ next y. about f y (optional 0 (operands k (stack_of old))) (rest next) in
    let under = c.topmost-subscripts.ensures
    ∙ ap (operands r.count) (c.under.ensures ∙ ap (λ l. drop k (reverse l)) c.deref.ensures.value) in
    let is : named_for f r.scope r.word (operands r.count (drop k (stack_of old))) ≡ Ok x =
    sym (c.in_ok-name.ensures ∙ ap (named_for f r.scope r.word) under) ∙ c.in-Ok.is in
    let o = option_copied c.as_ref.result in
    let same : o ≡ optional 0 (operands k (stack_of old)) =
    c.as_ref.ensures.value
    ∙ c.in_ok-other.ensures
    ∙ ap (optional 0) (c.topmost.ensures ∙ ap (λ l. operands k (reverse l)) c.deref-2.ensures.value) in
    IfOk-weaker c.inquire-step.result _ _
    (λ step d reply all u. does_as (λ next. given (named_for f r.scope r.word (operands r.count (drop k (stack_of old)))) (whole next)) (λ next. about f x o (rest next))
    old reply step _
    (λ next n back replies. given_is (named_for f r.scope r.word (operands r.count (drop k (stack_of old)))) (Ok x) (whole next) n back (state_of old) replies is
    ∙ ap (λ t. about f x t (rest next) n back (state_of old) replies) (sym same)) (d reply))
    c.inquire-step.ensures.ok

pub inquire-step-requires-clause-local : goal.inquire-step-requires-clause-local
inquire-step-requires-clause-local c = λ asks.
    let r = c.args.reference.now in
    let ss = c.topmost-subscripts.result.now in
    named_kind r.scope r.word (filled_for c.args.function ss) ss c.in-Ok.name (sym c.in_ok-name.ensures ∙ c.in-Ok.is) ∙ ap is_global (c.requires.here asks)
