use Rattle.std.proofs.Common.{◌≡◌, ℕ, ◌+◌, arith}
use Rattle.mj_text.specs.declared.fault.Fault.TheVariants.{NoTransaction, Steps}
use Rattle.mj_semantics.specs.Outcome.{Timed, fault}
use Rattle.mj_semantics.specs.Transactions.{commit}
use Rattle.mj_pcode.specs.Machine.{Next}
use Rattle.mj_machine.specs.Kept.{context_of, stack_of, state_of, replied}
use Rattle.mj_machine.proofs.Asks.{does_as}
use Rattle.mj_transaction_ops.proofs.Levels.{none_open, no_commit}
use Rattle.mj_transaction_ops.proofs.ending.commit.Goals as goal

pub returns-then-machine-eq0-clause-ok : goal.returns-then-machine-eq0-clause-ok
returns-then-machine-eq0-clause-ok c = λ all u.
    let old = c.args.machine.now in
    let rest : ℕ → Next → Timed = λ k next. next (context_of old) (c.args.pc + k) (stack_of old) in
    does_as (λ next. commit (rest 1 next) (rest 2 next)) (λ next. fault NoTransaction) old (replied c.args.given) c.fail.result c.fail.new.machine
    (λ next n back replies. none_open n back (state_of old) replies _ c.if-machine-eq0.true)
    (c.fail.ensures (replied c.args.given))

pub returns-then-machine-clause-ok : goal.returns-then-machine-clause-ok
returns-then-machine-clause-ok c = λ all u.
    let old = c.args.machine.now in
    let rest : ℕ → Next → Timed = λ k next. next (context_of old) (c.args.pc + k) (stack_of old) in
    let one : old.level ≡ 1 = omega (arith, c.if-machine-eq0.false, c.if-machine-gt1.false) in
    does_as (λ next. commit (rest 1 next) (rest 2 next)) (λ next. fault Steps) old (replied c.args.given) c.fail-then-machine.result c.fail-then-machine.new.machine
    (λ next n back replies. no_commit n back (state_of old) replies (rest 1 next) (rest 2 next) one c.if-machine.true)
    (c.fail-then-machine.ensures (replied c.args.given))
