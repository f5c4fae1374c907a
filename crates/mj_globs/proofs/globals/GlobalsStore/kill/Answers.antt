use Rattle.mj_globs.proofs.Stamping.{stamped_kill, killed_rises}
use Rattle.mj_globs.proofs.globals.GlobalsStore.kill.Goals as goal

pub invariant_of-self : goal.invariant_of-self
invariant_of-self c = stamped_kill c.args.name.now c.self.inside.texts c.kill.new.self c.self.inside.stamps c.self.invariant c.kill.ensures

pub returns-clause-stamps : goal.returns-clause-stamps
returns-clause-stamps c =
    killed_rises c.args.name.now c.args.self.now c.raise.new.self c.self.inside.texts c.self.inside.stamps c.self.view_is c.raise.ensures.content c.raise.ensures.raised
    c.kill.new.self c.self.invariant c.kill.ensures
