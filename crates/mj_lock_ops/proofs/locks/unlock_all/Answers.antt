use Rattle.std.proofs.Common.{◌≡◌, ℕ, ◌+◌, drop, arith}
use Rattle.std.proofs.lemmas.Result.{IfOk-weaker}
use Rattle.std.specs.Prelude.{None}
use Rattle.mj_text.specs.declared.fault.Fault.TheVariants.{InTransaction}
use Rattle.mj_ask.specs.declared.ask.Ask.TheVariants as asks
use Rattle.mj_ask.specs.declared.ask.SharedAsk.TheVariants as shared_asks
use Rattle.mj_semantics.specs.Outcome.{Timed, ask, fault}
use Rattle.mj_semantics.specs.Sharing.{unlock_all, served}
use Rattle.mj_pcode.specs.Machine.{Next}
use Rattle.mj_machine.specs.Kept.{context_of, stack_of, state_of, replied}
use Rattle.mj_machine.proofs.Asks.{does_as}
use Rattle.mj_lock_ops.proofs.Wanting.{in_it, outside_it}
use Rattle.mj_lock_ops.proofs.locks.unlock_all.Goals as goal

pub returns-then-machine-gt0-clause-ok : goal.returns-then-machine-gt0-clause-ok
returns-then-machine-gt0-clause-ok c = λ all u.
    let old = c.args.machine.now in
    let rest : Next → Timed = λ next. next (context_of old) (c.args.pc + 1) (stack_of old) in
    does_as (λ next. unlock_all (rest next)) (λ next. fault InTransaction) old (replied c.args.given) c.fail.result c.fail.new.machine
    (λ next n back replies. in_it _ n back (state_of old) replies c.if-machine-gt0.true)
    (c.fail.ensures (replied c.args.given))

pub returns-clause-ok : goal.returns-clause-ok
returns-clause-ok c =
    let old = c.args.machine.now in
    let none : old.level ≡ 0 = omega (arith, c.if-machine-gt0.false) in
    let rest : Next → Timed = λ next. next (context_of old) (c.args.pc + 1) (stack_of old) in
    let asked : Next → Timed = λ next. ask (asks.Shared shared_asks.UnlockAll) (λ r. served None r (rest next)) in
    IfOk-weaker c.ask_in_time.result _ _
    (λ step d all u. does_as (λ next. unlock_all (rest next)) asked old (replied c.args.given) step _
    (λ next n back replies. outside_it (asked next) n back (state_of old) replies none) d)
    c.ask_in_time.ensures.ok
