use Rattle.std.proofs.Common.{ℕ, ◌≤◌, ◌<◌, ◌⊎◌, inl, inr, arith}
use Rattle.std.proofs.lemmas.Result.{IfOk-weaker}
use Rattle.mj_text.specs.declared.fault.Fault.TheVariants.{Steps}
use Rattle.mj_ask.specs.declared.ask.Ask.TheVariants as asks
use Rattle.mj_ask.specs.declared.ask.SharedAsk.TheVariants as shared_asks
use Rattle.mj_semantics.specs.Outcome.{fault}
use Rattle.mj_semantics.specs.Accesses.{access}
use Rattle.mj_machine.specs.Kept.{state_of}
use Rattle.mj_machine.proofs.Asks.{does_as, waits}
use Rattle.mj_variable_ops.proofs.Accesses.{access_needs, access_ends}
use Rattle.mj_variable_ops.proofs.globals.ask.Goals as goal

pub returns-then-machine-clause-ok : goal.returns-then-machine-clause-ok
returns-then-machine-clause-ok c = λ given e rest.
    let old = c.args.machine.now in
    does_as (λ next. access c.args.access (rest next)) (λ next. fault Steps) old given c.fail.result c.fail.new.machine
    (λ next n back replies. access_ends c.args.access (rest next) n back (state_of old) replies c.requires.global c.if-machine.true) (c.fail.ensures given)

the_first : (P : Type 0) (n most : ℕ) → P ⊎ (most ≤ n) → n < most → P
the_first P n most (inl p) few = p
the_first P n most (inr many) few = absurd (omega (arith, many, few))

pub returns-clause-ok : goal.returns-clause-ok
returns-clause-ok c =
    let old = c.args.machine.now in
    IfOk-weaker c.wait.result _ _
    (λ step w given e rest. waits (λ next. access c.args.access (rest next)) (asks.Shared (shared_asks.Access c.args.access)) old given step
    (the_first _ old.replied old.bounds.events e c.if-machine.false) w
    (λ next n back. access_needs c.args.access (rest next) n back (state_of old) c.requires.global c.if-machine.false))
    c.wait.ensures
