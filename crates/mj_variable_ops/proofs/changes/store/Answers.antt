use Rattle.std.proofs.Common.{◌≡◌, ℕ, ◌+◌, drop, ap, ◌∙◌}
use Rattle.std.specs.Prelude.{Ok}
use Rattle.std.proofs.lemmas.Result.{IfOk-weaker}
use Rattle.mj_ast.specs.declared.expr.Scope.{Scope}
use Rattle.mj_ast.specs.declared.expr.Scope.TheVariants as scopes
use Rattle.mj_subs.specs.Name.{Name}
use Rattle.mj_semantics.specs.State.{plain_name}
use Rattle.mj_semantics.specs.Outcome.{Timed, given}
use Rattle.mj_semantics.specs.Evaluation.{name_of}
use Rattle.mj_semantics.specs.Commands.{store}
use Rattle.mj_pcode.specs.Machine.{Next, top, operands}
use Rattle.mj_machine.specs.Kept.{context_of, stack_of, state_of, replied}
use Rattle.mj_machine.proofs.Asks.{does_as, given_is}
use Rattle.mj_variable_ops.proofs.changes.store.Goals as goal

pub returns-then-is_plain_local-clause-ok : goal.returns-then-is_plain_local-clause-ok
returns-then-is_plain_local-clause-ok c =
    let old = c.args.machine.now in
    let r = c.args.reference.now in
    let depth = c.args.depth in
    let plain = c.is_plain_local.ensures.plain c.if-is_plain_local.true in
    let x : Name = plain_name r.word in
    let rest : Next → Name → Timed = λ next y. store y (top (stack_of old)) (next (context_of old) (c.args.pc + 1) (drop depth.taken (stack_of old))) in
    let is : name_of r.scope r.word (operands r.count (drop depth.above (stack_of old))) ≡ Ok x =
    ap (λ (s : Scope). name_of s r.word (operands r.count (drop depth.above (stack_of old)))) plain.0
    ∙ ap (λ (k : ℕ). name_of scopes.Local r.word (operands k (drop depth.above (stack_of old)))) plain.1 in
    IfOk-weaker c.store_word.result _ _
    (λ step d all u. does_as (λ next. given (name_of r.scope r.word (operands r.count (drop depth.above (stack_of old)))) (rest next)) (λ next. rest next x)
    old (replied c.args.given) step _
    (λ next n back replies. given_is (name_of r.scope r.word (operands r.count (drop depth.above (stack_of old)))) (Ok x) (rest next) n back (state_of old) replies is)
    (d (replied c.args.given)))
    c.store_word.ensures.ok

pub returns-in-Local-clause-ok : goal.returns-in-Local-clause-ok
returns-in-Local-clause-ok c = IfOk-weaker c.store_subscripted.result _ _ (λ step d. d (replied c.args.given)) c.store_subscripted.ensures.ok
