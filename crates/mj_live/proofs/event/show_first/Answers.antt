use Rattle.mj_dev.specs.Shelves.{principal}
use Rattle.mj_sessions.specs.Follow.{written_on}
use Rattle.mj_live.proofs.Seen.{none_taken, all_taken}
use Rattle.mj_live.proofs.event.show_first.Goals as goal

pub returns-in-Ok : goal.returns-in-Ok
returns-in-Ok g c = (
  c.behind.ensures,
  all_taken c.args.session (g.W.Write.contents c.args.out.now) (g.W.Write.contents c.write.new.out) (written_on principal c.args.ask.now c.args.reply.now)
      c.if-session-eq1.true c.in-Ok.ensures,
)

pub returns-else-session-eq1 : goal.returns-else-session-eq1
returns-else-session-eq1 g c =
    (c.behind-else-session-eq1.ensures, none_taken c.args.session (g.W.Write.contents c.args.out.now) (written_on principal c.args.ask.now c.args.reply.now) c.if-session-eq1.false)
