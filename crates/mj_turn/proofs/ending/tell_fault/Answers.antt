use Rattle.std.proofs.Common.{[], sym, ap, ◌∙◌}
use Rattle.std.specs.Prelude.{option_map, if◌then◌else◌, Some}
use Rattle.std.proofs.lemmas.Result.{IfOk-weaker}
use Rattle.mj_ask.specs.declared.ask.Ask.TheVariants as asks
use Rattle.mj_ask.specs.declared.ask.DeviceAsk.TheVariants as device_asks
use Rattle.mj_semantics.specs.State.{principal, places}
use Rattle.mj_semantics.specs.Outcome.{Needs, asking, end, fault_bytes}
use Rattle.mj_machine.specs.Standing.{given_first}
use Rattle.mj_machine.specs.Kept.{restart_of, state_of, replied}
use Rattle.mj_machine.proofs.Asks.{waits}
use Rattle.mj_turn.specs.Faults.{telling}
use Rattle.mj_turn.proofs.ending.tell_fault.Goals as goal

pub returns-in_ok-line-in-None-clause-ok : goal.returns-in_ok-line-in-None-clause-ok
returns-in_ok-line-in-None-clause-ok c =
    let old = c.args.machine.now in
    let f = c.args.fault in
    let line = asking (asks.Device principal (device_asks.Write (fault_bytes f (state_of old)))) (λ r. end (Some f)) in
    IfOk-weaker c.wait.result _ _
    (λ step w. waits (λ next. telling f) (asks.Device c.principal.result (device_asks.Write c.in_ok-line-in-None.line)) old (replied c.args.given) step (ap (option_map (λ r. r.now)) c.in-None.is) w
    (λ next n back.
    ap (λ b. (if b then end (Some f) else line) n back (state_of old) []) (sym c.principal_failed.ensures ∙ c.if-principal_failed.false)
    ∙ ap (λ p. Needs (asks.Device p (device_asks.Write (fault_bytes f (state_of old)))) (state_of old).locals (places (state_of old))) (sym c.principal.ensures)
    ∙ ap (λ t. Needs (asks.Device c.principal.result (device_asks.Write t)) (state_of old).locals (places (state_of old))) (sym c.in_ok-line-in-None.ensures)))
    c.wait.ensures

pub returns-in-Some-clause-ok : goal.returns-in-Some-clause-ok
returns-in-Some-clause-ok c = (
  tt,
  λ next n handle replies.
      let old = c.args.machine.now in
      let f = c.args.fault in
      let line = asking (asks.Device principal (device_asks.Write (fault_bytes f (state_of old)))) (λ r. end (Some f)) in
      ap (λ g. telling f n (handle (restart_of old)) (state_of old) (given_first (replied g) replies)) c.in-Some.is
      ∙ ap (λ b. (if b then end (Some f) else line) n (handle (restart_of old)) (state_of old) (given_first (replied (Some c.in-Some.field-0)) replies))
      (sym c.principal_failed.ensures ∙ c.if-principal_failed.false),
)

pub returns-then-principal_failed-clause-ok : goal.returns-then-principal_failed-clause-ok
returns-then-principal_failed-clause-ok c = (
  tt,
  λ next n handle replies.
      let old = c.args.machine.now in
      let f = c.args.fault in
      let line = asking (asks.Device principal (device_asks.Write (fault_bytes f (state_of old)))) (λ r. end (Some f)) in
      ap (λ b. (if b then end (Some f) else line) n (handle (restart_of old)) (state_of old) (given_first (replied c.args.given) replies))
      (sym c.principal_failed.ensures ∙ c.if-principal_failed.true),
)
