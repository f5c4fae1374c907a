use Rattle.std.proofs.Common.{◌≡◌, ◌∙◌, ℕ, List, Result, drop, sym, ap, subst, reverse}
use Rattle.std.specs.Prelude.{IfOk}
use Rattle.std.proofs.lemmas.Result.{IfOk-weaker}
use Rattle.mj_text.specs.declared.fault.Fault.{Fault}
use Rattle.mj_text.specs.Failing.{then_value}
use Rattle.mj_text.specs.declared.limit.Limit.{Limit}
use Rattle.mj_ast.specs.declared.expr.Scope.{Scope}
use Rattle.mj_subs.specs.Name.{Name}
use Rattle.mj_strfn.specs.Functions.{set_piece_value}
use Rattle.mj_store.specs.declared.access.Access.TheVariants as accesses
use Rattle.mj_semantics.specs.Accesses.{answer_told, value_told}
use Rattle.mj_semantics.specs.Functions.{needed}
use Rattle.mj_semantics.specs.Evaluation.{is_global}
use Rattle.mj_semantics.specs.Outcome.{Timed, given, composed}
use Rattle.mj_semantics.specs.Commands.{or_empty, renewed}
use Rattle.mj_pcode.specs.Machine.{Next, top, operands}
use Rattle.mj_machine.specs.Kept.{stack_of, state_of, replied, with_value}
use Rattle.mj_machine.proofs.Asks.{takes}
use Rattle.mj_variable_ops.specs.Answers.{value_or_empty, name_with}
use Rattle.mj_variable_ops.specs.Asked.{AsksFor}
use Rattle.mj_variable_ops.proofs.Altered.{renewed_told}
use Rattle.mj_variable_ops.proofs.pieces.renew_global.Goals as goal

pub returns-in-None-clause-ok : goal.returns-in-None-clause-ok
returns-in-None-clause-ok c =
    let old = c.args.machine.now in
    let st = stack_of old in
    let r = c.args.reference.now in
    let l = operands c.args.count (drop c.args.above st) in
    let ss : List (List ℕ) = operands r.count (drop c.args.count (drop c.args.above st)) in
    let x : Name = name_with r.scope r.word ss in
    let range = c.args.range in
    let e = top st in
    let rest : Next → List ℕ → Timed = with_value old c.args.pc 0 in
    let P : Scope → Type 0 = λ s. IfOk c.ask_value.result (λ step. AsksFor (accesses.Value (name_with s r.word ss)) old step c.ask_value.new.machine) in
    IfOk-weaker c.ask_value.result _ _ (λ step d. d (replied c.args.given) c.in-None.ensures.none
    (λ next. λ a. composed (λ limit. set_piece_value limit (or_empty (value_told a)) (needed 0 l) range e) (rest next))) (subst P (sym c.requires.global) c.ask_value.ensures.ok)

pub returns-in-Some-clause-ok : goal.returns-in-Some-clause-ok
returns-in-Some-clause-ok c =
    let old = c.args.machine.now in
    let st = stack_of old in
    let r = c.args.reference.now in
    let l = operands c.args.count (drop c.args.above st) in
    let ss : List (List ℕ) = operands r.count (drop c.args.count (drop c.args.above st)) in
    let x : Name = name_with r.scope r.word ss in
    let range = c.args.range in
    let e = top st in
    let reply = c.in-Some.reply.now in
    let d = needed 0 l in
    let rest : Next → List ℕ → Timed = with_value old c.args.pc 0 in
    let v : c.top-value.result.now ≡ e = c.top-value.ensures ∙ ap (λ s. top (reverse s)) c.deref-in-Some.ensures.value in
    let sep : c.needed-separator.result.now ≡ d =
    c.needed-separator.ensures ∙ (λ i. needed 0 ((c.below_both.ensures ∙ ap (λ s. operands c.args.count (drop c.args.above (reverse s))) c.deref.ensures.value) i)) in
    let limit : Limit = old.bounds.limit in
    let w : Result (List ℕ) Fault = then_value (value_or_empty (answer_told reply)) (λ o. set_piece_value limit o c.needed-separator.result.now range c.top-value.result.now) in
    let same : then_value (value_or_empty (answer_told reply)) (λ o. set_piece_value limit o d range e) ≡ w =
    λ i. then_value (value_or_empty (answer_told reply)) (λ o. set_piece_value limit o (sym sep i) range (sym v i)) in
    IfOk-weaker c.put_told.result _ _
    (λ step t. takes (λ next. renewed x d range e (rest next))
    (λ next. given w (rest next)) old (replied c.args.given) reply step c.put_told.new.machine c.in-Some.ensures.some.0
    (λ next n back replies.
    renewed_told x d range e (rest next) n back (state_of old) reply w replies (ap is_global c.requires.global) c.in-Some.ensures.some.1 same) t)
    (c.put_told.ensures.ok w c.renewed-renewed.ensures)
