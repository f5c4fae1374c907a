use Rattle.std.proofs.Common.{◌≡◌, ℕ, ◌≤◌, drop, List, length, Option, refl, sym, ap, ◌∙◌, reverse, subst}
use Rattle.std.specs.Prelude.{Ok, Err, option_copied}
use Rattle.std.proofs.lemmas.Result.{IfOk-weaker}
use Rattle.mj_subs.specs.Name.{Name}
use Rattle.mj_semantics.specs.Functions.{optional}
use Rattle.mj_semantics.specs.Outcome.{Timed, composed, fault}
use Rattle.mj_semantics.specs.Evaluation.{about}
use Rattle.mj_semantics.specs.Names.{question, function_told}
use Rattle.mj_pcode.specs.Machine.{operands}
use Rattle.mj_machine.specs.Kept.{stack_of, state_of}
use Rattle.mj_machine.proofs.Asks.{does_as}
use Rattle.mj_variable_ops.specs.Answers.{global_with}
use Rattle.mj_variable_ops.specs.Asked.{asked}
use Rattle.mj_variable_ops.proofs.Accesses.{about_asks, question_of}
use Rattle.mj_variable_ops.proofs.about.ask_about.Goals as goal

pub returns-in-Err-clause-ok : goal.returns-in-Err-clause-ok
returns-in-Err-clause-ok c = λ reply e rest.
    let old = c.args.machine.now in
    let f = c.args.function in
    let k = c.args.others in
    let ss : List (List ℕ) = operands c.args.count (drop k (stack_of old)) in
    let x : Name = global_with c.args.word.now ss in
    let o : Option (List ℕ) = optional 0 (operands k (stack_of old)) in
    let under = c.topmost-subscripts.ensures ∙ ap (operands c.args.count) (c.under.ensures ∙ ap (λ l. drop k (reverse l)) c.deref.ensures.value) in
    let named : c.in_ok-name.name ≡ x = c.in_ok-name.ensures ∙ ap (global_with c.args.word.now) under in
    let other : option_copied c.foremost-other.result ≡ o = c.foremost-other.ensures ∙ ap (optional 0) (c.topmost.ensures ∙ ap (λ l. operands k (reverse l)) c.deref-2.ensures.value) in
    let q : question f x o ≡ Err c.in-Err.fault = sym (c.question.ensures ∙ (λ i. question f (named i) (other i))) ∙ c.in-Err.is in
    does_as (λ next. about f x o (rest next)) (λ next. fault c.in-Err.fault) old reply c.fail.result c.fail.new.machine
    (λ next n back replies. about_asks f x o (rest next) n back (state_of old) replies (Err c.in-Err.fault) c.requires.asks q) (c.fail.ensures reply)

pub returns-in-Ok-clause-ok : goal.returns-in-Ok-clause-ok
unfolding asked
returns-in-Ok-clause-ok c =
    let old = c.args.machine.now in
    let f = c.args.function in
    let k = c.args.others in
    let ss : List (List ℕ) = operands c.args.count (drop k (stack_of old)) in
    let x : Name = global_with c.args.word.now ss in
    let o : Option (List ℕ) = optional 0 (operands k (stack_of old)) in
    let under = c.topmost-subscripts.ensures ∙ ap (operands c.args.count) (c.under.ensures ∙ ap (λ l. drop k (reverse l)) c.deref.ensures.value) in
    let named : c.in_ok-name.name ≡ x = c.in_ok-name.ensures ∙ ap (global_with c.args.word.now) under in
    let other : option_copied c.foremost-other.result ≡ o = c.foremost-other.ensures ∙ ap (optional 0) (c.topmost.ensures ∙ ap (λ l. operands k (reverse l)) c.deref-2.ensures.value) in
    let q : question f x o ≡ Ok c.in-Ok.access = sym (c.question.ensures ∙ (λ i. question f (named i) (other i))) ∙ c.in-Ok.is in
    IfOk-weaker c.ask.result _ _
    (λ step d reply e rest. does_as (λ next. about f x o (rest next)) (λ next. asked f o c.in-Ok.access (rest next)) old reply step _
    (λ next n back replies. about_asks f x o (rest next) n back (state_of old) replies (Ok c.in-Ok.access) c.requires.asks q)
    (d reply e (λ next. λ r. composed (λ limit. function_told limit f o r) (rest next))))
    c.ask.ensures.ok

pub ask-requires : goal.ask-requires
ask-requires c =
    let old = c.args.machine.now in
    let f = c.args.function in
    let k = c.args.others in
    let ss : List (List ℕ) = operands c.args.count (drop k (stack_of old)) in
    let x : Name = global_with c.args.word.now ss in
    let o : Option (List ℕ) = optional 0 (operands k (stack_of old)) in
    let under = c.topmost-subscripts.ensures ∙ ap (operands c.args.count) (c.under.ensures ∙ ap (λ l. drop k (reverse l)) c.deref.ensures.value) in
    let named : c.in_ok-name.name ≡ x = c.in_ok-name.ensures ∙ ap (global_with c.args.word.now) under in
    let other : option_copied c.foremost-other.result ≡ o = c.foremost-other.ensures ∙ ap (optional 0) (c.topmost.ensures ∙ ap (λ l. operands k (reverse l)) c.deref-2.ensures.value) in
    record { global = ap (λ (y : Name). y.global) (question_of f c.in_ok-name.name (option_copied c.foremost-other.result) c.in-Ok.access (sym c.question.ensures ∙ c.in-Ok.is) ∙ named) }

pub global_name-requires : goal.global_name-requires
global_name-requires c =
    let old = c.args.machine.now in
    let k = c.args.others in
    let under = c.topmost-subscripts.ensures ∙ ap (operands c.args.count) (c.under.ensures ∙ ap (λ l. drop k (reverse l)) c.deref.ensures.value) in
    subst (λ (l : List (List ℕ)). length l ≤ 31) (sym under) c.requires.few
