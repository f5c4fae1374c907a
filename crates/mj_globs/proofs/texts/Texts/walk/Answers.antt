use Rattle.std.proofs.Common.{true, false}
use Rattle.mj_globs.specs.Words.{spelled, of_kind}
use Rattle.mj_globs.proofs.Walked.{stops_behind}
use Rattle.mj_globs.proofs.texts.Texts.walk.Goals as goal

-- where it closes among the locals, it took all globals before
pub returns-clause-closed : goal.returns-clause-closed
returns-clause-closed g c =
    stops_behind g.S.Sink.takes g.S.Sink.closes g.S.Sink.closed c.args.sink.now c.walk.new.sink c.walk-2.new.sink (of_kind true (spelled c.self.inside.globals.entries))
    (of_kind false (spelled c.self.inside.locals.entries)) c.args.self.now c.self.view_is c.in_ok-walk.ensures.taken c.walk-2.result c.walk-2.ensures.closed
