use Rattle.std.proofs.Common.{◌≡◌, ◌+◌, ◌∷◌, ◌≤◌, ◌<◌, drop, length, [], ℕ, List, true, false, sym, ap, ◌∙◌, arith}
use Rattle.std.specs.Prelude.{option_map}
use Rattle.std.proofs.lemmas.Result.{IfOk-weaker}
use Rattle.mj_text.specs.declared.fault.Fault.TheVariants.{Steps, Length, Device}
use Rattle.mj_text.specs.Limit.{most_bytes}
use Rattle.mj_ask.specs.declared.ask.Ask.TheVariants as asks
use Rattle.mj_ask.specs.declared.ask.DeviceAsk.TheVariants as device_asks
use Rattle.mj_semantics.specs.Outcome.{Outcome, Needs, Timed, change, fault}
use Rattle.mj_semantics.specs.State.{places, wrote, counted}
use Rattle.mj_semantics.specs.Commands.{write}
use Rattle.mj_pcode.specs.Machine.{Next}
use Rattle.mj_open_devices.specs.Opened.{Opened, after_write}
use Rattle.mj_machine.specs.Standing.{given_first}
use Rattle.mj_machine.specs.Kept.{context_of, stack_of, state_of, restart_of, replied, without}
use Rattle.mj_machine.proofs.Asks.{does_as, waits, no_more, one_more, written_by, over_long, device_told, device_tells}
use Rattle.mj_machine.proofs.asking.put_out.Goals as goal

pub returns-then-size-most-clause-ok : goal.returns-then-size-most-clause-ok
returns-then-size-most-clause-ok c =
    let old = c.args.machine.now in
    let rest : Next → Timed = without old c.args.pc c.args.count in
    let long : most_bytes old.bounds.limit < length c.args.text = omega (arith, c.len-size.ensures.value, c.if-size-most.true, c.bytes-most.ensures.value) in
    does_as (λ next. write c.args.text (rest next)) (λ next. fault Length) old (replied c.args.given) c.fail.result c.fail.new.machine
    (λ next n back replies. over_long c.args.text (rest next) n back (state_of old) replies long)
    (c.fail.ensures (replied c.args.given))

pub returns-then-machine-clause-ok : goal.returns-then-machine-clause-ok
returns-then-machine-clause-ok c =
    let some : c.args.text ≡ [] → ⊥ = λ e. absurd (omega (arith, ap length e, c.len-size.ensures.value, c.if-size-eq0.false)) in
    let old = c.args.machine.now in
    let short : length c.args.text ≤ most_bytes old.bounds.limit = omega (arith, c.len-size.ensures.value, c.if-size-most.false, c.bytes-most.ensures.value) in
    let rest : Next → Timed = without old c.args.pc c.args.count in
    does_as (λ next. write c.args.text (rest next)) (λ next. fault Steps) old (replied c.args.given) c.fail-then-machine.result c.fail-then-machine.new.machine
    (λ next n back replies.
    written_by c.args.text (rest next) n back (state_of old) replies some short
    ∙ no_more _ (device_told old.devices.current (change (wrote c.args.text) (rest next))) n back (state_of old) replies c.if-machine.true)
    (c.fail-then-machine.ensures (replied c.args.given))

pub returns-in_ok-device-in-None-clause-ok : goal.returns-in_ok-device-in-None-clause-ok
returns-in_ok-device-in-None-clause-ok c =
    let some : c.args.text ≡ [] → ⊥ = λ e. absurd (omega (arith, ap length e, c.len-size.ensures.value, c.if-size-eq0.false)) in
    let old = c.args.machine.now in
    let short : length c.args.text ≤ most_bytes old.bounds.limit = omega (arith, c.len-size.ensures.value, c.if-size-most.false, c.bytes-most.ensures.value) in
    let rest : Next → Timed = without old c.args.pc c.args.count in
    IfOk-weaker c.wait.result _ _
    (λ step w. waits (λ next. write c.args.text (rest next)) (asks.Device c.in_ok-device-in-None.device (device_asks.Write c.args.text)) old (replied c.args.given) step
    (ap (option_map (λ r. r.now)) c.in-None.is) w
    (λ next n back.
    written_by c.args.text (rest next) n back (state_of old) [] some short
    ∙ one_more _ (device_told old.devices.current (change (wrote c.args.text) (rest next))) n back (state_of old) [] c.if-machine.false
    ∙ ap (λ p. Needs (asks.Device p (device_asks.Write c.args.text)) (state_of old).locals (places (state_of old))) (sym c.in_ok-device-in-None.ensures)))
    c.wait.ensures

pub returns-then-is_failed-clause-ok : goal.returns-then-is_failed-clause-ok
returns-then-is_failed-clause-ok c =
    let some : c.args.text ≡ [] → ⊥ = λ e. absurd (omega (arith, ap length e, c.len-size.ensures.value, c.if-size-eq0.false)) in
    let old = c.args.machine.now in
    let short : length c.args.text ≤ most_bytes old.bounds.limit = omega (arith, c.len-size.ensures.value, c.if-size-most.false, c.bytes-most.ensures.value) in
    let r = c.in-Some.reply.now in
    let t = c.args.text in
    let rest : Next → Timed = without old c.args.pc c.args.count in (
      tt,
      λ next n handle replies.
          let goes : Opened → Outcome = λ o. fault Device n (handle (restart_of old)) (record (counted (state_of old)) { devices = o.devices; current = o.current }) replies in
          ap (λ g. write t (rest next) n (handle (restart_of old)) (state_of old) (given_first (replied g) replies)) c.in-Some.is
          ∙ written_by t (rest next) n (handle (restart_of old)) (state_of old) (r ∷ replies) some short
          ∙ device_tells old.devices.current (device_asks.Write t) (change (wrote t) (rest next)) n (handle (restart_of old)) (state_of old) r true replies c.if-machine.false
          (sym c.is_failed.ensures ∙ c.if-is_failed.true)
          ∙ ap goes (sym c.fail_current.ensures),
    )

pub returns-else-is_failed-clause-ok : goal.returns-else-is_failed-clause-ok
returns-else-is_failed-clause-ok c =
    let some : c.args.text ≡ [] → ⊥ = λ e. absurd (omega (arith, ap length e, c.len-size.ensures.value, c.if-size-eq0.false)) in
    let old = c.args.machine.now in
    let short : length c.args.text ≤ most_bytes old.bounds.limit = omega (arith, c.len-size.ensures.value, c.if-size-most.false, c.bytes-most.ensures.value) in
    let r = c.in-Some.reply.now in
    let t = c.args.text in
    let rest : Next → Timed = without old c.args.pc c.args.count in
    let devices : c.write.new.self ≡ after_write t old.devices = c.write.ensures ∙ ap (λ b. after_write b old.devices) c.bytes.ensures.value in (
      tt,
      λ next n handle replies.
          let goes : Opened → List (List ℕ) → Outcome = λ o l.
          next (context_of old) (c.args.pc + 1) l n (handle (restart_of old)) (record (counted (state_of old)) { devices = o.devices; current = o.current }) replies in
          ap (λ g. write t (rest next) n (handle (restart_of old)) (state_of old) (given_first (replied g) replies)) c.in-Some.is
          ∙ written_by t (rest next) n (handle (restart_of old)) (state_of old) (r ∷ replies) some short
          ∙ device_tells old.devices.current (device_asks.Write t) (change (wrote t) (rest next)) n (handle (restart_of old)) (state_of old) r false replies c.if-machine.false
          (sym c.is_failed.ensures ∙ c.if-is_failed.false)
          ∙ ap (λ o. goes o (drop c.args.count (stack_of old))) (sym devices)
          ∙ ap (goes c.write.new.self) (sym c.take_off-in-Some.ensures),
    )
