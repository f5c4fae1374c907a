use Rattle.mj_load.specs.Image.{program_of}
use Rattle.mj_retrace.proofs.Standing.{asked_next}
use Rattle.mj_retrace.proofs.ends.add_ask.Goals as goal

pub returns-in_ok-push-in-Some-2-clause-asked : goal.returns-in_ok-push-in-Some-2-clause-asked
returns-in_ok-push-in-Some-2-clause-asked g c =
    asked_next (program_of c.args.core.now.image) g.O.Opening.opening c.args.core.now.history c.args.asked.now.items c.push.new.self.items c.args.stands.now.items
    c.push-in-Some.new.self.items c.args.job c.in-Some.ask c.in-Some.spot c.in_ok-next_ask.field-0 c.in-Some.is c.in_ok-push-in-Some.ensures.items
    c.in_ok-push-in-Some-2.ensures.items c.in_ok-next_ask.ensures.asks
