use Rattle.std.proofs.Common.{◌≡◌, ℕ, ◌+◌, ◌-◌, [], None, true, false, refl, sym, ap, ◌∙◌, arith}
use Rattle.std.specs.Prelude.{option_map}
use Rattle.std.proofs.lemmas.Result.{IfOk-weaker}
use Rattle.mj_text.specs.declared.fault.Fault.TheVariants.{Steps, Device}
use Rattle.mj_ask.specs.declared.ask.Ask.TheVariants as asks
use Rattle.mj_ask.specs.declared.ask.DeviceAsk.TheVariants as device_asks
use Rattle.mj_semantics.specs.State.{principal, places, counted}
use Rattle.mj_semantics.specs.Outcome.{Needs, Timed, fault}
use Rattle.mj_open_devices.specs.Opened.{Opened}
use Rattle.mj_pcode.specs.Found.{found}
use Rattle.mj_pcode.specs.Machine.{Next, calls}
use Rattle.mj_turn.specs.Starts.{start_of}
use Rattle.mj_machine.specs.Standing as standings
use Rattle.mj_machine.specs.Standing.{Standing}
use Rattle.mj_machine.specs.declared.machine.TurnOutcome.TheVariants as steps
use Rattle.mj_machine.specs.Kept.{restart_of, standing, state_of, replied}
use Rattle.mj_machine.proofs.Asks.{does_as, waits, takes, no_more, one_more, device_told, device_tells}
use Rattle.mj_turn.proofs.calling.begin.Goals as goal

pub returns-then-machine-clause-ok : goal.returns-then-machine-clause-ok
returns-then-machine-clause-ok c =
    let old = c.args.machine.now in
    let start = start_of c.args.start.now in
    let rest : Next → Timed = λ next. calls false (found c.args.units.now start.entry) start.values [] next in
    does_as (standings.begin start c.args.units.now) (λ next. fault Steps) old (replied c.args.given) c.fail.result c.fail.new.machine
    (λ next n back replies. no_more _ (device_told principal (rest next)) n back (state_of old) replies c.if-machine.true)
    (c.fail.ensures (replied c.args.given))

pub returns-in-None-clause-ok : goal.returns-in-None-clause-ok
returns-in-None-clause-ok c =
    let old = c.args.machine.now in
    let start = start_of c.args.start.now in
    let rest : Next → Timed = λ next. calls false (found c.args.units.now start.entry) start.values [] next in
    IfOk-weaker c.wait.result _ _
    (λ step w. waits (standings.begin start c.args.units.now) (asks.Device c.principal.result device_asks.Begin) old (replied c.args.given) step (ap (option_map (λ r. r.now)) c.in-None.is) w
    (λ next n back.
    one_more _ (device_told principal (rest next)) n back (state_of old) [] c.if-machine.false
    ∙ ap (λ p. Needs (asks.Device p device_asks.Begin) (state_of old).locals (places (state_of old))) (sym c.principal.ensures)))
    c.wait.ensures

pub returns-then-is_failed-clause-ok : goal.returns-then-is_failed-clause-ok
returns-then-is_failed-clause-ok c =
    let old = c.args.machine.now in
    let start = start_of c.args.start.now in
    let r = c.in-Some.reply.now in
    let rest : Next → Timed = λ next. calls false (found c.args.units.now start.entry) start.values [] next in (
      tt,
      λ next n handle replies.
          ap (λ g. standings.begin start c.args.units.now next n (handle (restart_of old)) (state_of old) (standings.given_first (replied g) replies)) c.in-Some.is
          ∙ device_tells principal device_asks.Begin (rest next) n (handle (restart_of old)) (state_of old) r true replies c.if-machine.false
          (sym c.is_failed.ensures ∙ c.if-is_failed.true)
          ∙ ap (λ (o : Opened). fault Device n (handle (restart_of old)) (record (counted (state_of old)) { devices = o.devices; current = o.current }) replies) (sym c.fail_principal.ensures),
    )

pub returns-in-Err-clause-err : goal.returns-in-Err-clause-err
returns-in-Err-clause-err c = λ given.
    let old = c.args.machine.now in
    let less : Standing → Standing = λ st. record st { state = record st.state { replied = st.state.replied - 1 } } in
    let with : ℕ → Standing = λ k. let st : Standing = standing old given in record st { state = record st.state { replied = k } } in
    ap less (c.in-Err.ensures.err given) ∙ ap with (let e : old.replied + 1 - 1 ≡ old.replied = omega arith in e)

pub returns-in-Ok-clause-ok : goal.returns-in-Ok-clause-ok
returns-in-Ok-clause-ok c =
    let old = c.args.machine.now in
    let start = start_of c.args.start.now in
    let r = c.in-Some.reply.now in
    let rest : Next → Timed = λ next. calls false (found c.args.units.now start.entry) start.values [] next in
    takes (standings.begin start c.args.units.now) rest old (replied c.args.given) r steps.Took c.enter_first.new.machine (ap (option_map (λ q. q.now)) c.in-Some.is)
    (λ next n back replies. device_tells principal device_asks.Begin (rest next) n back (state_of old) r false replies c.if-machine.false
    (sym c.is_failed.ensures ∙ c.if-is_failed.false))
    (refl, c.in-Ok.ensures.ok None)
