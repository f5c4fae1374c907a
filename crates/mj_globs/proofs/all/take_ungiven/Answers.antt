use Rattle.std.proofs.Common.{◌∙◌}
use Rattle.mj_globs.proofs.Taken.{taken_named, taken_whole, keeps_words}
use Rattle.mj_globs.proofs.all.take_ungiven.Goals as goal

pub returns-then-is_any_rewritten-clause-ok : goal.returns-then-is_any_rewritten-clause-ok
returns-then-is_any_rewritten-clause-ok c =
    taken_named c.args.alone.now.content c.args.globals.now.content c.take_each.new.globals.content c.args.changes.now c.as_slice.result.now
    c.if-is_any_rewritten.ensures (c.as_slice.ensures.value ∙ c.in_ok-names.ensures) c.take_each.ensures.content

pub returns-then-is_any_rewritten-clause-others : goal.returns-then-is_any_rewritten-clause-others
returns-then-is_any_rewritten-clause-others c =
    keeps_words c.args.alone.now.content c.args.globals.now.content c.args.changes.now c.as_slice.result.now c.args.globals.now.stamps c.take_each.new.globals.stamps
    (c.as_slice.ensures.value ∙ c.in_ok-names.ensures) c.take_each.ensures.others

pub returns-clause-ok : goal.returns-clause-ok
returns-clause-ok c = taken_whole c.args.alone.now.content c.args.globals.now.content c.take_all.new.globals.content c.args.changes.now c.if-is_any_rewritten.ensures c.take_all.ensures.content
