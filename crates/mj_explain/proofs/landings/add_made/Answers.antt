use Rattle.mj_explain.proofs.Begun.{made_from}
use Rattle.mj_explain.proofs.landings.add_made.Goals as goal

pub returns : goal.returns
returns c =
    made_from c.args.events.now c.args.begins.now c.args.place c.index-events-place.result _ c.requires.begins c.requires.within c.index-events-place.is
    c.add_by.result c.args.landings.now.items c.add_by.new.landings.items c.add_by.ensures
