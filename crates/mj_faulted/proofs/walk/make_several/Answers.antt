use Rattle.mj_faulted.proofs.Walked.{several_on}
use Rattle.mj_faulted.proofs.walk.make_several.Goals as goal

pub returns : goal.returns
returns c = λ start replies i.
    several_on c.args.image.now start replies c.units-units.result.now c.units-units.ensures.which c.args.walk.now c.run_segment-made.new.machine
    c.run_segment-made.result c.run_segment-made.ensures.turns c.run_segment-made.ensures.sound i
