use Rattle.std.proofs.Common.{refl, ap}
use Rattle.std.specs.Prelude.{option_map}
use Rattle.std.proofs.lemmas.Result.{IfOk-weaker}
use Rattle.mj_ask.specs.declared.ask.Ask.TheVariants as asks
use Rattle.mj_ask.specs.declared.ask.DeviceAsk.TheVariants as device_asks
use Rattle.mj_machine.specs.Standing.{given_first}
use Rattle.mj_machine.specs.Kept.{restart_of, state_of, replied}
use Rattle.mj_machine.proofs.Asks.{waits}
use Rattle.mj_turn.specs.Faults.{closing_one}
use Rattle.mj_turn.proofs.ending.end_session.Goals as goal

pub returns-in-None-clause-ok : goal.returns-in-None-clause-ok
returns-in-None-clause-ok c =
    IfOk-weaker c.wait.result _ _
    (λ step w. waits (λ next. closing_one c.args.done c.args.device c.args.fault) (asks.Device c.args.device device_asks.End) c.args.machine.now (replied c.args.given) step
    (ap (option_map (λ r. r.now)) c.in-None.is) w (λ next n back. refl))
    c.wait.ensures

pub returns-in-Some-clause-ok : goal.returns-in-Some-clause-ok
returns-in-Some-clause-ok c = (
  tt,
  λ next n handle replies. ap (λ g.
      closing_one c.args.done c.args.device c.args.fault n (handle (restart_of c.args.machine.now)) (state_of c.args.machine.now) (given_first (replied g) replies)) c.in-Some.is,
)
