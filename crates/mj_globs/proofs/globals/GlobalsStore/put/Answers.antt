use Rattle.std.proofs.Common.{sym, ◌∙◌}
use Rattle.mj_globs.proofs.Stamping.{stamped_put, put_rises, no_error}
use Rattle.mj_globs.proofs.globals.GlobalsStore.put.Goals as goal

pub invariant_of-self : goal.invariant_of-self
invariant_of-self c =
    stamped_put c.args.name.now c.args.self.now c.count.new.self c.self.inside.texts c.self.inside.stamps c.self.view_is c.count.ensures.content c.count.ensures.raised
    (no_error c.count.result c.count.ensures.counted (sym c.is_err.ensures.value ∙ c.if-is_err.false)) c.put.new.self c.put.result c.args.nodes.now c.self.invariant c.put.ensures.ok c.put.ensures.err

pub returns-clause-stamps : goal.returns-clause-stamps
returns-clause-stamps c =
    put_rises c.args.name.now c.args.self.now c.count.new.self c.self.inside.texts c.self.inside.stamps c.self.view_is c.count.ensures.content c.count.ensures.raised
    (no_error c.count.result c.count.ensures.counted (sym c.is_err.ensures.value ∙ c.if-is_err.false)) c.put.new.self c.put.result c.args.nodes.now c.put.ensures.ok c.put.ensures.err
