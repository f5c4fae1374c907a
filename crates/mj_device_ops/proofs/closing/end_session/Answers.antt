use Rattle.std.proofs.Common.{◌≡◌, ℕ, ◌+◌, List, true, reverse, sym, ap, ◌∙◌}
use Rattle.std.specs.Prelude.{if◌then◌else◌}
use Rattle.mj_text.specs.declared.fault.Fault.TheVariants.{Steps}
use Rattle.mj_ask.specs.declared.ask.Ask.TheVariants as asks
use Rattle.mj_ask.specs.declared.ask.DeviceAsk.TheVariants as device_asks
use Rattle.mj_ask.specs.declared.ask.Reply.{Reply}
use Rattle.mj_semantics.specs.State.{may_close, dropped}
use Rattle.mj_semantics.specs.Outcome.{Timed, change, ask, fault, is_failed}
use Rattle.mj_semantics.specs.Devices.{end_session}
use Rattle.mj_pcode.specs.Machine.{Next, Stack, top, below}
use Rattle.mj_machine.specs.Kept.{context_of, stack_of, state_of, replied}
use Rattle.mj_machine.proofs.Asks.{does_as, no_more}
use Rattle.mj_device_ops.proofs.closing.end_session.Goals as goal

pub returns-then-machine-clause-ok : goal.returns-then-machine-clause-ok
returns-then-machine-clause-ok c = λ all u.
    let old = c.args.machine.now in
    let st : Stack = stack_of old in
    let name : List ℕ = top st in
    let t : c.top.result.now ≡ name = c.top.ensures ∙ ap (λ l. top (reverse l)) c.deref.ensures.value in
    let there : may_close name (state_of old) ≡ true = ap (λ x. may_close x (state_of old)) (sym t) ∙ sym c.if-not-may_close.ensures in
    let away : Next → Timed = λ next. next (context_of old) (c.args.pc + 3) (below st) in
    let badly : Next → Timed = λ next. next (context_of old) (c.args.pc + 1) st in
    let well : Next → Timed = λ next. next (context_of old) (c.args.pc + 2) st in
    let rest : Next → Reply → Timed = λ next r. change (dropped name) (if is_failed r then badly next else well next) in
    does_as (λ next. end_session name (away next) (badly next) (well next)) (λ next. fault Steps) old (replied c.args.given) c.fail.result c.fail.new.machine
    (λ next n back replies.
    ap (λ b. (if b then ask (asks.Device name device_asks.End) (rest next) else away next) n back (state_of old) replies) there
    ∙ no_more _ (rest next) n back (state_of old) replies c.if-machine.true)
    (c.fail.ensures (replied c.args.given))
