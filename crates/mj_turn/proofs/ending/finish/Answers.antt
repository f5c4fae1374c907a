use Rattle.std.proofs.Common.{refl, ap}
use Rattle.std.specs.Prelude.{option_map}
use Rattle.std.proofs.lemmas.Result.{IfOk-weaker}
use Rattle.mj_ask.specs.declared.ask.Ask.TheVariants as asks
use Rattle.mj_ask.specs.declared.ask.SharedAsk.TheVariants as shared_asks
use Rattle.mj_machine.specs.Standing.{given_first}
use Rattle.mj_machine.specs.Kept.{restart_of, state_of, replied}
use Rattle.mj_machine.proofs.Asks.{waits}
use Rattle.mj_turn.specs.Faults.{halting}
use Rattle.mj_turn.proofs.ending.finish.Goals as goal

pub returns-in-None-clause-ok : goal.returns-in-None-clause-ok
returns-in-None-clause-ok c =
    let old = c.args.machine.now in
    IfOk-weaker c.wait.result _ _
    (λ step w. waits (λ next. halting c.args.fault) (asks.Shared (shared_asks.Halt c.args.fault)) old (replied c.args.given) step (ap (option_map (λ r. r.now)) c.in-None.is) w (λ next n back. refl))
    c.wait.ensures

pub returns-in-Some-clause-ok : goal.returns-in-Some-clause-ok
returns-in-Some-clause-ok c =
    (tt, λ next n handle replies. ap (λ g. halting c.args.fault n (handle (restart_of c.args.machine.now)) (state_of c.args.machine.now) (given_first (replied g) replies)) c.in-Some.is)
