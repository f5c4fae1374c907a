use Rattle.mj_retrace.proofs.Standing.{asks_still}
use Rattle.mj_retrace.proofs.ends.next_ask.Goals as goal

pub returns-in-Ok-Asks-clause-asks : goal.returns-in-Ok-Asks-clause-asks
returns-in-Ok-Asks-clause-asks g c =
    asks_still c.args.core.now c.loop.core g.O.Opening.opening c.args.job c.in-Ok-Asks.field-0 c.in-Ok-Asks.seen c.loop.invariant.image c.loop.invariant.history
    c.in-Ok-Asks.field-0-is c.in-Ok-Asks.ensures.asks
