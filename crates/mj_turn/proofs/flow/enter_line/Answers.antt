use Rattle.std.proofs.Common.{◌≡◌, ◌+◌, ◌<◌, ◌≤◌, List, length, sym, ap, ◌∙◌, arith}
use Rattle.std.proofs.lemmas.Bool.{eqb-true, eqb-false}
use Rattle.std.proofs.lemmas.List.{length-reverse}
use Rattle.std.proofs.lemmas.Result.{IfOk-weaker}
use Rattle.mj_semantics.specs.State.{State, Frame, level_of, at_place}
use Rattle.mj_semantics.specs.Outcome.{change}
use Rattle.mj_pcode.specs.Machine.{below, comes_to, quits, place_in}
use Rattle.mj_machine.specs.Standing.{given_first}
use Rattle.mj_machine.specs.Kept.{restart_of, context_of, stack_of, state_of}
use Rattle.mj_machine.proofs.Asks.{does_as}
use Rattle.mj_turn.proofs.Going.{comes_tallied, comes_bare, entered_less, entered_deeper, entered_level}
use Rattle.mj_turn.proofs.flow.enter_line.Goals as goal

pub returns-then-not-is_empty-clause-ok : goal.returns-then-not-is_empty-clause-ok
returns-then-not-is_empty-clause-ok c = λ all reply.
    let old = c.args.machine.now in
    let not_none : old.stack.len ≡ 0 → ⊥ = eqb-false old.stack.len 0 (sym c.is_empty.ensures ∙ c.if-not-is_empty.true) in
    let some : 1 ≤ length (stack_of old) = omega (arith, not_none, old.stack.ok.0, length-reverse old.stack.items) in
    does_as (λ next. comes_to c.args.unit.now c.args.line next (context_of old) c.args.pc (stack_of old))
    (λ next. next (context_of old) c.args.pc (below (stack_of old))) old reply c.take_tally.result c.take_tally.new.machine
    (λ next n back replies. ap (λ t. t n back (state_of old) replies) (comes_tallied c.args.unit.now c.args.line next (context_of old) c.args.pc (stack_of old) some))
    (c.take_tally.ensures reply)

pub returns-then-line-level-clause-ok : goal.returns-then-line-level-clause-ok
returns-then-line-level-clause-ok c =
    let old = c.args.machine.now in
    let u = c.args.unit.now in
    let none : length (stack_of old) ≡ 0 = omega (arith, eqb-true old.stack.len 0 (sym c.is_empty.ensures ∙ c.if-not-is_empty.false), old.stack.ok.0, length-reverse old.stack.items) in
    let less : c.args.line.level < level_of (state_of old) = omega (arith, c.if-line-level.true, c.level-level.ensures.value) in
    IfOk-weaker c.leave.result _ _
    (λ step d. λ all reply.
    does_as (λ next. comes_to u c.args.line next (context_of old) c.args.pc (stack_of old))
    (λ next. change (at_place (place_in u c.saturating_sub.result)) (quits next (context_of old).calls)) old reply step _
    (λ next n back replies.
    ap (λ t. t n back (state_of old) replies) (comes_bare u c.args.line next (context_of old) c.args.pc (stack_of old) none)
    ∙ entered_less u c.args.line next (context_of old) c.args.pc (stack_of old) n back (state_of old) replies less
    ∙ ap (λ k. change (at_place (place_in u k)) (quits next (context_of old).calls) n back (state_of old) replies) (sym c.saturating_sub.ensures))
    (d reply))
    c.leave.ensures.ok

pub returns-then-level-line-clause-ok : goal.returns-then-level-line-clause-ok
returns-then-level-line-clause-ok c = λ all reply.
    let old = c.args.machine.now in
    let none : length (stack_of old) ≡ 0 = omega (arith, eqb-true old.stack.len 0 (sym c.is_empty.ensures ∙ c.if-not-is_empty.false), old.stack.ok.0, length-reverse old.stack.items) in
    let least : level_of (state_of old) ≤ c.args.line.level = omega (arith, c.if-line-level.false, c.level-level.ensures.value) in
    let less : level_of (state_of old) < c.args.line.level = omega (arith, c.if-level-line.true, c.level-level.ensures.value) in (
      tt,
      λ next n handle replies.
          ap (λ t. t n (handle (restart_of old)) (state_of old) (given_first reply replies)) (comes_bare c.args.unit.now c.args.line next (context_of old) c.args.pc (stack_of old) none)
          ∙ entered_deeper c.args.unit.now c.args.line next (context_of old) c.args.pc (stack_of old) n (handle (restart_of old)) (state_of old) (given_first reply replies) least less,
    )

pub returns-clause-ok : goal.returns-clause-ok
returns-clause-ok c = λ all reply.
    let old = c.args.machine.now in
    let s : State = state_of old in
    let with : List Frame → State = λ l. record s { frames = l } in
    let none : length (stack_of old) ≡ 0 = omega (arith, eqb-true old.stack.len 0 (sym c.is_empty.ensures ∙ c.if-not-is_empty.false), old.stack.ok.0, length-reverse old.stack.items) in
    let least : level_of s ≤ c.args.line.level = omega (arith, c.if-line-level.false, c.level-level.ensures.value) in
    let most : c.args.line.level ≤ level_of s = omega (arith, c.if-level-line.false, c.level-level.ensures.value) in (
      tt,
      λ next n handle replies.
          ap (λ t. t n (handle (restart_of old)) s (given_first reply replies)) (comes_bare c.args.unit.now c.args.line next (context_of old) c.args.pc (stack_of old) none)
          ∙ entered_level c.args.unit.now c.args.line next (context_of old) c.args.pc (stack_of old) n (handle (restart_of old)) s (given_first reply replies) least most
          ∙ ap (λ l. next (context_of old) (c.args.pc + 1) (stack_of old) n (handle (restart_of old)) (with l) (given_first reply replies)) (sym c.in_ok-enter.ensures.ok),
    )
