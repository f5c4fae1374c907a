use Rattle.std.proofs.Common.{refl}
use Rattle.mj_retrace.proofs.Fronts.{may_tell}
use Rattle.mj_retrace.proofs.doing.does_there.Goals as goal

pub returns : goal.returns
returns g c = (
  refl,
  may_tell g.O.Opening.opening c.args.core.now c.next_ask.new.core c.args.job c.in-Some.ask c.in-Some.spot c.in_ok-told.told c.in_ok-ask.field-0 c.in-Some.is
      c.len-events.ensures.run c.in_ok-ask.ensures.asks c.in_ok-ask.ensures.image c.in_ok-ask.ensures.history c.in_ok-told.ensures.shared c.in_ok-told.ensures.run,
)
