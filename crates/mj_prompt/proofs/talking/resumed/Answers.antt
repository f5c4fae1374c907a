use Rattle.mj_replica.specs.Replays.{history_of}
use Rattle.mj_prompt.proofs.Resuming.{resumed_by}
use Rattle.mj_prompt.proofs.talking.resumed.Goals as goal

pub returns-in-Ok-clause-told : goal.returns-in-Ok-clause-told
returns-in-Ok-clause-told g c =
    resumed_by (history_of c.args.again.told.items) c.made_again.new.debugger.core.history (g.O.Write.contents c.args.out.now)
    (g.O.Write.contents c.tell_same.new.out) c.in_ok-same.same c.in_ok-same.ensures.same c.in_ok-same.ensures.other c.in-Ok.ensures.same c.in-Ok.ensures.other
