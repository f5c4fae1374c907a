use Rattle.std.proofs.Common.{◌≡◌, ℕ, ◌+◌, ◌∷◌, drop, ap, ◌∙◌}
use Rattle.std.specs.Prelude.{Ok}
use Rattle.std.proofs.lemmas.Result.{IfOk-weaker}
use Rattle.mj_ast.specs.declared.expr.Scope.{Scope}
use Rattle.mj_ast.specs.declared.expr.Scope.TheVariants as scopes
use Rattle.mj_subs.specs.Name.{Name}
use Rattle.mj_semantics.specs.State.{plain_name}
use Rattle.mj_semantics.specs.Outcome.{Timed, given}
use Rattle.mj_semantics.specs.Evaluation.{name_of, read}
use Rattle.mj_pcode.specs.Machine.{Next, operands}
use Rattle.mj_machine.specs.Kept.{context_of, stack_of, state_of, replied}
use Rattle.mj_machine.proofs.Asks.{does_as, given_is}
use Rattle.mj_variable_ops.proofs.variables.load.Goals as goal

pub returns-then-is_plain_local-clause-ok : goal.returns-then-is_plain_local-clause-ok
returns-then-is_plain_local-clause-ok c =
    let old = c.args.machine.now in
    let r = c.args.reference.now in
    let plain = c.is_plain_local.ensures.plain c.if-is_plain_local.true in
    let x : Name = plain_name r.word in
    let rest : Next → Name → Timed = λ next y. read y (λ v. next (context_of old) (c.args.pc + 1) (v ∷ drop r.count (stack_of old))) in
    let is : name_of r.scope r.word (operands r.count (stack_of old)) ≡ Ok x =
    ap (λ (s : Scope). name_of s r.word (operands r.count (stack_of old))) plain.0 ∙ ap (λ (k : ℕ). name_of scopes.Local r.word (operands k (stack_of old))) plain.1 in
    IfOk-weaker c.read_word.result _ _
    (λ step d all u. does_as (λ next. given (name_of r.scope r.word (operands r.count (stack_of old))) (rest next))
    (λ next. read x (λ v. next (context_of old) (c.args.pc + 1) (v ∷ drop 0 (stack_of old))))
    old (replied c.args.given) step _
    (λ next n back replies. given_is (name_of r.scope r.word (operands r.count (stack_of old))) (Ok x) (rest next) n back (state_of old) replies is
    ∙ ap (λ (k : ℕ). read x (λ v. next (context_of old) (c.args.pc + 1) (v ∷ drop k (stack_of old))) n back (state_of old) replies) plain.1)
    (d (replied c.args.given)))
    c.read_word.ensures.ok

pub returns-in-Local-clause-ok : goal.returns-in-Local-clause-ok
returns-in-Local-clause-ok c = IfOk-weaker c.load_local.result _ _ (λ step d. d (replied c.args.given)) c.load_local.ensures.ok
