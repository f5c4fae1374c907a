use Rattle.mj_globs.proofs.Stamping.{stamped_restored, restored_rises}
use Rattle.mj_globs.proofs.globals.Globals.restore.Goals as goal

pub invariant_of-self : goal.invariant_of-self
invariant_of-self c = stamped_restored c.args.name.now c.args.text c.self.inside.texts c.restore.new.self c.self.inside.stamps c.self.invariant c.restore.ensures

pub returns-clause-stamps : goal.returns-clause-stamps
returns-clause-stamps c =
    restored_rises c.args.name.now c.args.self.now c.raise.new.self c.self.inside.texts c.self.inside.stamps c.self.view_is c.raise.ensures.content c.raise.ensures.raised
    c.args.text c.restore.new.self c.self.invariant c.restore.ensures
