use Rattle.std.proofs.Common.{ℕ, List}
use Rattle.mj_text.specs.declared.fault.Fault.TheVariants.{Steps, Device}
use Rattle.mj_semantics.specs.Outcome.{fault}
use Rattle.mj_semantics.specs.Devices.{give_up}
use Rattle.mj_pcode.specs.Machine.{top}
use Rattle.mj_machine.specs.Kept.{stack_of, state_of, replied}
use Rattle.mj_machine.proofs.Asks.{does_as, no_more}
use Rattle.mj_device_ops.proofs.closing.give_up_failed.Goals as goal

pub returns-then-machine-clause-ok : goal.returns-then-machine-clause-ok
returns-then-machine-clause-ok c = λ pc all u.
    let old = c.args.machine.now in
    let name : List ℕ = top (stack_of old) in
    does_as (λ next. give_up name (fault Device)) (λ next. fault Steps) old (replied c.args.given) c.fail.result c.fail.new.machine
    (λ next n back replies. no_more _ (λ r. fault Device) n back (state_of old) replies c.if-machine.true)
    (c.fail.ensures (replied c.args.given))
