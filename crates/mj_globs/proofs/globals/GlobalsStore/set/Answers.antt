use Rattle.mj_globs.proofs.Stamping.{stamped_set, set_rises}
use Rattle.mj_globs.proofs.globals.GlobalsStore.set.Goals as goal

pub invariant_of-self : goal.invariant_of-self
invariant_of-self c =
    stamped_set c.args.name.now c.args.self.now c.count.new.self c.self.inside.texts c.self.inside.stamps c.self.view_is c.count.ensures.content c.count.ensures.raised
    c.in_ok-count.ensures.counted c.set.new.self c.set.result c.args.text.now c.self.invariant c.set.ensures.ok c.set.ensures.err

pub returns-clause-stamps : goal.returns-clause-stamps
returns-clause-stamps c =
    set_rises c.args.name.now c.args.self.now c.count.new.self c.self.inside.texts c.self.inside.stamps c.self.view_is c.count.ensures.content c.count.ensures.raised
    c.in_ok-count.ensures.counted c.set.new.self c.set.result c.args.text.now c.set.ensures.ok c.set.ensures.err
