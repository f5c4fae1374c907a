use Rattle.std.proofs.Common.{◌≡◌, Option, List, ℕ, drop, reverse, ap, ◌∙◌, subst, sym}
use Rattle.std.specs.Prelude.{Result, option_copied}
use Rattle.mj_text.specs.declared.fault.Fault.{Fault}
use Rattle.mj_text.specs.declared.limit.Limit.{Limit}
use Rattle.mj_ast.specs.declared.expr.Scope.{Scope}
use Rattle.mj_subs.specs.Name.{Name}
use Rattle.mj_strfn.specs.Functions.{AnswersOrMemory, set_piece_value}
use Rattle.mj_store.specs.Questions.{value_at}
use Rattle.mj_store.specs.declared.access.Access.TheVariants as accesses
use Rattle.mj_semantics.specs.Accesses.{value_told}
use Rattle.mj_semantics.specs.Functions.{needed}
use Rattle.mj_semantics.specs.Evaluation.{is_global}
use Rattle.mj_semantics.specs.Outcome.{given, composed}
use Rattle.mj_semantics.specs.Commands.{or_empty, renewed}
use Rattle.mj_pcode.specs.Machine.{top, operands}
use Rattle.mj_machine.specs.declared.machine.TurnOutcome.TheVariants as steps
use Rattle.mj_machine.specs.Kept.{stack_of, state_of, with_value}
use Rattle.mj_machine.proofs.Asks.{does_as}
use Rattle.mj_variable_ops.specs.Answers.{name_with, local_with}
use Rattle.mj_variable_ops.proofs.Accesses.{access_made}
use Rattle.mj_variable_ops.proofs.pieces.renew_local.Goals as goal

pub returns-clause-ok : goal.returns-clause-ok
returns-clause-ok c = λ reply.
    let old = c.args.machine.now in
    let st = stack_of old in
    let r = c.args.reference.now in
    let l = operands c.args.count (drop c.args.above st) in
    let ss : List (List ℕ) = operands r.count (drop c.args.count (drop c.args.above st)) in
    let x : Name = name_with r.scope r.word ss in
    let range = c.args.range in
    let e = top st in
    let d = needed 0 l in
    let v : c.top-value.result.now ≡ e = c.top-value.ensures ∙ ap (λ s. top (reverse s)) c.deref-3.ensures.value in
    let sep : c.needed-separator.result.now ≡ d =
    c.needed-separator.ensures ∙ (λ i. needed 0 ((c.below_both.ensures ∙ ap (λ s. operands c.args.count (drop c.args.above (reverse s))) c.deref.ensures.value) i)) in
    let under = c.below_both-subscripts.ensures ∙ ap (λ s. operands r.count (drop c.args.count (drop c.args.above (reverse s)))) c.deref-2.ensures.value in
    let stands : option_copied c.in_ok-old.old ≡ value_at old.locals.now x =
    c.in_ok-old.ensures ∙ ap (λ (k : List (List ℕ)). value_at old.locals.now (local_with r.word k)) under
    ∙ ap (λ (s : Scope). value_at old.locals.now (name_with s r.word ss)) (sym c.requires.local) in
    let limit : Limit = old.bounds.limit in
    let w : Result (List ℕ) Fault = set_piece_value limit (or_empty (option_copied c.in_ok-old.old)) c.needed-separator.result.now range c.top-value.result.now in
    let same : w ≡ set_piece_value limit (or_empty (value_at old.locals.now x)) d range e = λ i. set_piece_value limit (or_empty (stands i)) (sep i) range (v i) in
    does_as (λ next. renewed x d range e (with_value old c.args.pc 0 next)) (λ next. given w (with_value old c.args.pc 0 next)) old reply steps.Next c.put_value.new.machine
    (λ next n back replies.
    access_made (accesses.Value x) (λ a. composed (λ limit. set_piece_value limit (or_empty (value_told a)) d range e) (with_value old c.args.pc 0 next)) n back (state_of old) replies
    (ap is_global c.requires.local)
    ∙ ap (λ q. given q (with_value old c.args.pc 0 next) n back (state_of old) replies) (sym same))
    (c.in_ok-put_value.ensures.ok w c.with_pieces-renewed.ensures reply)
