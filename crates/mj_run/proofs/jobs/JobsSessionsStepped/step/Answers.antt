use Rattle.std.proofs.Common.{Ok, Err, subst}
use Rattle.mj_dev.specs.Told.{IsToldBy}
use Rattle.mj_core.specs.Shown.{Shown}
use Rattle.mj_core.specs.Gives.{CoreStepGives, DeviceStepGives}
use Rattle.mj_core.specs.declared.seen.Seen.{Seen}
use Rattle.mj_run.proofs.Stepping.{seen_fitting}
use Rattle.mj_run.proofs.jobs.JobsSessionsStepped.step.Goals as goal

pub standing-requires : goal.standing-requires
standing-requires g c =
    let P : Seen → Type 0 = λ what. CoreStepGives g.O.Opening.opening c.self.inside.core c.args.step (Ok what) c.step.new.self in
    seen_fitting c.in-Ok.seen (λ is.
    c.no_step_is_unfit.ensures g.O.Opening.opening c.self.inside.core c.step.new.self c.args.step c.self.invariant c.len-run.ensures.run (subst P is c.in-Ok.ensures.gives))

pub returns-in-Ok : goal.returns-in-Ok
returns-in-Ok g c =
    let tells = IsToldBy g.D.Device.inside g.D.Device.failures g.D.Device.taken g.D.Device.given g.D.Device.IsTold in
    let P : Shown → Type 0 = λ old. CoreStepGives g.O.Opening.opening old c.args.step (Ok c.in-Ok.seen) c.step.new.self in
    let Q : Shown → Type 0 = λ old. DeviceStepGives tells g.O.Opening.opening old c.args.step (Ok c.in-Ok.seen) c.step.new.self in
    (c.in-Ok.seen, subst P c.self.view_is c.in-Ok.ensures.gives, subst Q c.self.view_is c.in-Ok.ensures.called, c.standing.ensures)

pub returns-in-Err : goal.returns-in-Err
returns-in-Err g c =
    let tells = IsToldBy g.D.Device.inside g.D.Device.failures g.D.Device.taken g.D.Device.given g.D.Device.IsTold in
    let P : Shown → Type 0 = λ old. CoreStepGives g.O.Opening.opening old c.args.step (Err c.in-Err.why) c.step.new.self in
    let Q : Shown → Type 0 = λ old. DeviceStepGives tells g.O.Opening.opening old c.args.step (Err c.in-Err.why) c.step.new.self in
    (subst P c.self.view_is c.in-Err.ensures.gives, subst Q c.self.view_is c.in-Err.ensures.called)
