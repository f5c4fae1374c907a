use Rattle.std.proofs.Common.{◌<◌, length, sym, ap, arith}
use Rattle.std.proofs.lemmas.Result.{IfOk-weaker}
use Rattle.mj_text.specs.declared.text.TheConstants.{TEXT_LIMIT}
use Rattle.mj_text.specs.declared.fault.Fault.TheVariants.{Length}
use Rattle.mj_text.specs.Limit.{most_bytes}
use Rattle.mj_text.proofs.LimitLemmas.{most_below}
use Rattle.mj_semantics.specs.Outcome.{fault}
use Rattle.mj_semantics.specs.Commands.{write}
use Rattle.mj_machine.specs.Kept.{state_of, replied, without}
use Rattle.mj_machine.proofs.Asks.{does_as, over_long, too_long}
use Rattle.mj_machine.proofs.format.put_bytes.Goals as goal

pub returns-in-Fault-clause-ok : goal.returns-in-Fault-clause-ok
returns-in-Fault-clause-ok c =
    let old = c.args.machine.now in
    let bytes = c.args.bytes.now in
    let above : TEXT_LIMIT < length bytes = too_long (length bytes) c.in-Err.failure _ c.from.result c.in-Err.is c.in-Fault.is c.from.ensures.within in
    let long : most_bytes old.bounds.limit < length bytes = omega (arith, above, most_below old.bounds.limit) in
    does_as (λ next. write bytes (without old c.args.pc c.args.count next)) (λ next. fault Length) old (replied c.args.given) c.fail.result c.fail.new.machine
    (λ next n back replies. over_long bytes (without old c.args.pc c.args.count next) n back (state_of old) replies long)
    (c.fail.ensures (replied c.args.given))

pub returns-in-Ok-clause-ok : goal.returns-in-Ok-clause-ok
returns-in-Ok-clause-ok c =
    let old = c.args.machine.now in
    let bytes = c.args.bytes.now in
    IfOk-weaker c.put_out.result _ _
    (λ step d. does_as (λ next. write bytes (without old c.args.pc c.args.count next)) (λ next. write c.in-Ok.text (without old c.args.pc c.args.count next)) old (replied c.args.given) step _
    (λ next n back replies. ap (λ t. write t (without old c.args.pc c.args.count next) n back (state_of old) replies) (sym c.in-Ok.ensures.ok)) d)
    c.put_out.ensures.ok
