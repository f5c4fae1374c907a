use Rattle.mj_globs.proofs.Parts.{in_one}
use Rattle.mj_globs.proofs.all.make_logged.Goals as goal

pub returns-clause-ok : goal.returns-clause-ok
returns-clause-ok c = in_one c.args.globals.now.content c.args.changes.now c.give_all.new.globals.content c.if-is_any_kill.ensures c.in_ok-give_all.ensures.ok
