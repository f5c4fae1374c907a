use Rattle.mj_dev.specs.Told.{IsToldBy}
use Rattle.mj_steps.specs.Driven.{new_round, fresh}
use Rattle.mj_live.proofs.Turning.{in_turn}
use Rattle.mj_live.proofs.stepping.LiveJobs.go.Goals as goal

pub returns-clause-live : goal.returns-clause-live
returns-clause-live g c = record { turns = c.step_in_turn.ensures }

pub returns-clause-run : goal.returns-clause-run
returns-clause-run g c =
    let tells = IsToldBy g.D.Device.inside g.D.Device.failures g.D.Device.taken g.D.Device.given g.D.Device.IsTold in
    (in_turn tells g.O.Opening.opening c.args.most 0 new_round fresh c.args.self.now c.step_in_turn.result c.step_in_turn.new.jobs c.step_in_turn.ensures).0

pub returns-clause-shows : goal.returns-clause-shows
returns-clause-shows g c still =
    let tells = IsToldBy g.D.Device.inside g.D.Device.failures g.D.Device.taken g.D.Device.given g.D.Device.IsTold in
    ((in_turn tells g.O.Opening.opening c.args.most 0 new_round fresh c.args.self.now c.step_in_turn.result c.step_in_turn.new.jobs c.step_in_turn.ensures).1 still).1
