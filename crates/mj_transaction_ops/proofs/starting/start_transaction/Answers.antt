use Rattle.std.proofs.Common.{◌≡◌, ℕ, ◌+◌, sym, ◌∙◌, arith}
use Rattle.mj_text.specs.declared.fault.Fault.TheVariants.{Limit, InTransaction, Steps}
use Rattle.mj_semantics.specs.Outcome.{Timed, fault}
use Rattle.mj_semantics.specs.Transactions.{begin_transaction}
use Rattle.mj_pcode.specs.Machine.{Next, restored_of}
use Rattle.mj_machine.specs.Kept.{context_of, stack_of, state_of, replied}
use Rattle.mj_machine.proofs.Asks.{does_as}
use Rattle.mj_transaction_ops.proofs.Levels.{too_deep, no_begin, in_expression}
use Rattle.mj_transaction_ops.proofs.starting.start_transaction.Goals as goal

pub returns-then-machine-ge-LEVELS_LIMIT-clause-ok : goal.returns-then-machine-ge-LEVELS_LIMIT-clause-ok
returns-then-machine-ge-LEVELS_LIMIT-clause-ok c = λ all u.
    let old = c.args.machine.now in
    let rest : ℕ → Next → Timed = λ k next. next (context_of old) (c.args.pc + k) (stack_of old) in
    does_as (λ next. begin_transaction (restored_of c.args.restores.now) c.args.serial (rest 2 next) (rest 1 next)) (λ next. fault Limit) old (replied c.args.given) c.fail.result c.fail.new.machine
    (λ next n back replies. too_deep n back (state_of old) replies (restored_of c.args.restores.now) c.args.serial (rest 2 next) (rest 1 next) c.if-machine-ge-LEVELS_LIMIT.true)
    (c.fail.ensures (replied c.args.given))

pub returns-then-any_function-clause-ok : goal.returns-then-any_function-clause-ok
returns-then-any_function-clause-ok c = λ all u.
    let old = c.args.machine.now in
    let rest : ℕ → Next → Timed = λ k next. next (context_of old) (c.args.pc + k) (stack_of old) in
    let none : old.level ≡ 0 = omega (arith, c.if-machine-ne0.false) in
    does_as (λ next. begin_transaction (restored_of c.args.restores.now) c.args.serial (rest 2 next) (rest 1 next))
    (λ next. fault InTransaction) old (replied c.args.given) c.fail-then-any_function.result c.fail-then-any_function.new.machine
    (λ next n back replies. in_expression n back (state_of old) replies (restored_of c.args.restores.now) c.args.serial (rest 2 next) (rest 1 next) none
    (sym c.any_function.ensures ∙ c.if-any_function.true))
    (c.fail-then-any_function.ensures (replied c.args.given))

pub returns-then-machine-clause-ok : goal.returns-then-machine-clause-ok
returns-then-machine-clause-ok c = λ all u.
    let old = c.args.machine.now in
    let rest : ℕ → Next → Timed = λ k next. next (context_of old) (c.args.pc + k) (stack_of old) in
    let none : old.level ≡ 0 = omega (arith, c.if-machine-ne0.false) in
    does_as (λ next. begin_transaction (restored_of c.args.restores.now) c.args.serial (rest 2 next) (rest 1 next))
    (λ next. fault Steps) old (replied c.args.given) c.fail-then-machine.result c.fail-then-machine.new.machine
    (λ next n back replies. no_begin n back (state_of old) replies (restored_of c.args.restores.now) c.args.serial (rest 2 next) (rest 1 next) none
    (sym c.any_function.ensures ∙ c.if-any_function.false) c.if-machine.true)
    (c.fail-then-machine.ensures (replied c.args.given))
