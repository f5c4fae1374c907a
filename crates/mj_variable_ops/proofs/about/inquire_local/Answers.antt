use Rattle.std.proofs.Common.{ℕ, List}
use Rattle.std.specs.Prelude.{Result, option_copied}
use Rattle.mj_text.specs.declared.fault.Fault.{Fault}
use Rattle.mj_semantics.specs.Outcome.{Timed, given}
use Rattle.mj_semantics.specs.Evaluation.{about}
use Rattle.mj_pcode.specs.Machine.{Next}
use Rattle.mj_variable_ops.specs.Asked.{told_among}
use Rattle.mj_machine.specs.declared.machine.TurnOutcome.TheVariants as steps
use Rattle.mj_machine.specs.Kept.{state_of, with_value}
use Rattle.mj_machine.proofs.Asks.{does_as}
use Rattle.mj_variable_ops.proofs.Accesses.{about_local}
use Rattle.mj_variable_ops.proofs.about.inquire_local.Goals as goal

pub returns-clause-ok : goal.returns-clause-ok
returns-clause-ok c = λ reply.
    let old = c.args.machine.now in
    let f = c.args.function in
    let x = c.args.name.now in
    let o = option_copied c.args.other in
    let rest : Next → List ℕ → Timed = with_value old c.args.pc c.args.count in
    let w : Result (List ℕ) Fault = told_among old.bounds.limit f x o (state_of old).locals in
    does_as (λ next. about f x o (rest next)) (λ next. given w (rest next)) old reply steps.Next c.put_value.new.machine
    (λ next n back replies. about_local f x o (rest next) n back (state_of old) replies c.requires.local c.requires.asks)
    (c.in_ok-put_value.ensures.ok w c.told_here-value.ensures reply)
