use Rattle.std.proofs.Common.{◌≡◌, ℕ, ◌+◌, drop, List, Some, None, sym, ap, ◌∙◌, reverse}
use Rattle.std.specs.Prelude.{Ok, Err}
use Rattle.std.proofs.lemmas.Result.{IfOk-weaker}
use Rattle.mj_ast.specs.declared.expr.Scope.{Scope}
use Rattle.mj_subs.specs.Name.{Name}
use Rattle.mj_semantics.specs.Outcome.{Timed, given, fault}
use Rattle.mj_semantics.specs.Evaluation.{name_of}
use Rattle.mj_semantics.specs.Commands.{remove}
use Rattle.mj_pcode.specs.Machine.{Next, operands}
use Rattle.mj_machine.specs.Kept.{context_of, stack_of, state_of, replied}
use Rattle.mj_machine.proofs.Asks.{does_as, given_is}
use Rattle.mj_variable_ops.specs.Answers.{no_name, global_with}
use Rattle.mj_variable_ops.proofs.Named.{name_with, not_named, is_named, few_named}
use Rattle.mj_variable_ops.proofs.changes.kill_named.Goals as goal

pub returns-in-Some-clause-ok : goal.returns-in-Some-clause-ok
returns-in-Some-clause-ok c = λ all u.
    let old = c.args.machine.now in
    let r = c.args.reference.now in
    let ss : List (List ℕ) = operands r.count (stack_of old) in
    let rest : Next → Name → Timed = λ next x. remove x (next (context_of old) (c.args.pc + 1) (drop r.count (stack_of old))) in
    let under = c.topmost.ensures ∙ ap (λ l. operands r.count (reverse l)) c.deref.ensures.value in
    let no : no_name ss ss ≡ Some c.in-Some.fault = sym (c.refusal.ensures ∙ ap (λ l. no_name l l) under) ∙ c.in-Some.is in
    let is : name_of r.scope r.word ss ≡ Err c.in-Some.fault = not_named r.scope r.word ss ss c.in-Some.fault no in
    does_as (λ next. given (name_of r.scope r.word ss) (rest next)) (λ next. fault c.in-Some.fault)
    old (replied c.args.given) c.fail.result c.fail.new.machine
    (λ next n back replies. given_is (name_of r.scope r.word ss) (Err c.in-Some.fault) (rest next) n back (state_of old) replies is)
    (c.fail.ensures (replied c.args.given))

pub returns-clause-ok : goal.returns-clause-ok
returns-clause-ok c =
    let old = c.args.machine.now in
    let r = c.args.reference.now in
    let ss : List (List ℕ) = operands r.count (stack_of old) in
    let x : Name = global_with r.word ss in
    let rest : Next → Name → Timed = λ next x. remove x (next (context_of old) (c.args.pc + 1) (drop r.count (stack_of old))) in
    let under = c.topmost.ensures ∙ ap (λ l. operands r.count (reverse l)) c.deref.ensures.value in
    let no : no_name ss ss ≡ None = sym (c.refusal.ensures ∙ ap (λ l. no_name l l) under) ∙ c.in_default.is in
    let is : name_of r.scope r.word ss ≡ Ok x = is_named r.scope r.word ss ss no ∙ ap (λ (s : Scope). Ok (name_with s r.word ss)) c.requires.global in
    IfOk-weaker c.kill_global.result _ _
    (λ step d all u. does_as (λ next. given (name_of r.scope r.word ss) (rest next)) (λ next. rest next x)
    old (replied c.args.given) step _
    (λ next n back replies. given_is (name_of r.scope r.word ss) (Ok x) (rest next) n back (state_of old) replies is) d)
    c.kill_global.ensures.ok

pub kill_global-requires-clause-few : goal.kill_global-requires-clause-few
kill_global-requires-clause-few c =
    let old = c.args.machine.now in
    let r = c.args.reference.now in
    let ss : List (List ℕ) = operands r.count (stack_of old) in
    let under = c.topmost.ensures ∙ ap (λ l. operands r.count (reverse l)) c.deref.ensures.value in
    let no : no_name ss ss ≡ None = sym (c.refusal.ensures ∙ ap (λ l. no_name l l) under) ∙ c.in_default.is in
    few_named ss ss no
