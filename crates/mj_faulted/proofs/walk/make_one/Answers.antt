use Rattle.std.proofs.Common.{subst}
use Rattle.mj_machine.specs.declared.machine.TurnOutcome.{TurnOutcome}
use Rattle.mj_machine.specs.Kept.{replied}
use Rattle.mj_turn.specs.Starts.{start_of}
use Rattle.mj_turn.specs.Turns.{Turns}
use Rattle.mj_faulted.proofs.Walked.{one_on, one_taking}
use Rattle.mj_faulted.proofs.walk.make_one.Goals as goal

pub returns-in-Ok-Next : goal.returns-in-Ok-Next
returns-in-Ok-Next c = λ replies same i.
    let P : TurnOutcome → Type 0 = λ s. Turns c.units-units.result.now c.args.start.now c.args.walk.now.machine (replied c.args.given) s c.make_turn.new.machine in
    one_on c.args.image.now (start_of c.args.start.now) replies c.units-units.result.now c.units-units.ensures.which c.args.walk.now c.make_turn.new.machine
    (replied c.args.given) same (subst P c.in-Ok-Next.field-0-is c.in-Ok-Next.ensures.ok) c.make_turn.ensures.sound i

pub returns-in-Ok-Took : goal.returns-in-Ok-Took
returns-in-Ok-Took c = λ replies same i.
    let P : TurnOutcome → Type 0 = λ s. Turns c.units-units.result.now c.args.start.now c.args.walk.now.machine (replied c.args.given) s c.make_turn.new.machine in
    one_taking c.args.image.now (start_of c.args.start.now) replies c.units-units.result.now c.units-units.ensures.which c.args.walk.now c.make_turn.new.machine
    (replied c.args.given) same (subst P c.in-Ok-Took.field-0-is c.in-Ok-Took.ensures.ok) c.make_turn.ensures.sound i
