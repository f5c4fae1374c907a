use Rattle.mj_gather.proofs.Placed.{places_more}
use Rattle.mj_gather.proofs.gathering.places_of.Goals as goal

pub loop-at-preserved : goal.loop-at-preserved
loop-at-preserved c =
    places_more c.args.rans.now c.loop-at.at c.loop-at.places.items c.places_in.result c.push.new.self.items c.in_ok-push.ensures.items c.loop-at.invariant c.places_in.ensures
