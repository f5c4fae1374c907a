use Rattle.std.proofs.Common.{◌≡◌}
use Rattle.mj_text.specs.declared.fault.Fault.TheVariants.{Steps}
use Rattle.mj_semantics.specs.Outcome.{Timed, ask, fault}
use Rattle.mj_semantics.specs.Sharing.{served}
use Rattle.mj_pcode.specs.Machine.{Next}
use Rattle.mj_machine.specs.Kept.{state_of, replied, without}
use Rattle.mj_machine.proofs.Asks.{does_as, no_more}
use Rattle.mj_lock_ops.proofs.timed.ask_in_time.Goals as goal

pub returns-then-machine-clause-ok : goal.returns-then-machine-clause-ok
returns-then-machine-clause-ok c =
    let old = c.args.machine.now in
    let rest : Next → Timed = without old c.args.pc c.args.count in
    does_as (λ next. ask c.args.ask (λ r. served c.args.timeout r (rest next))) (λ next. fault Steps) old (replied c.args.given) c.fail.result c.fail.new.machine
    (λ next n back replies. no_more c.args.ask (λ r. served c.args.timeout r (rest next)) n back (state_of old) replies c.if-machine.true)
    (c.fail.ensures (replied c.args.given))
