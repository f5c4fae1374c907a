use Rattle.std.proofs.Common.{ℕ, ◌+◌, List}
use Rattle.mj_text.specs.declared.fault.Fault.TheVariants.{Steps}
use Rattle.mj_semantics.specs.Outcome.{Timed, fault}
use Rattle.mj_semantics.specs.Devices.{give_up}
use Rattle.mj_pcode.specs.Machine.{Next, top, below}
use Rattle.mj_machine.specs.Kept.{context_of, stack_of, state_of, replied}
use Rattle.mj_machine.proofs.Asks.{does_as, no_more}
use Rattle.mj_device_ops.proofs.closing.give_up.Goals as goal

pub returns-then-machine-clause-ok : goal.returns-then-machine-clause-ok
returns-then-machine-clause-ok c = λ all u.
    let old = c.args.machine.now in
    let name : List ℕ = top (stack_of old) in
    let rest : Next → Timed = λ next. next (context_of old) (c.args.pc + 1) (below (stack_of old)) in
    does_as (λ next. give_up name (rest next)) (λ next. fault Steps) old (replied c.args.given) c.fail.result c.fail.new.machine
    (λ next n back replies. no_more _ (λ r. rest next) n back (state_of old) replies c.if-machine.true)
    (c.fail.ensures (replied c.args.given))
