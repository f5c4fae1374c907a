use Rattle.std.proofs.Common.{◌≡◌, sym, ap, ◌∙◌}
use Rattle.mj_frames.specs.Places.{line_at}
use Rattle.mj_jobvm.proofs.Spots.{same_front, kept_named, spot_named}
use Rattle.mj_jobvm.proofs.places.spot_of.Goals as goal

pub returns-in_default-clause-more : goal.returns-in_default-clause-more
returns-in_default-clause-more c = same_front c.args.routines.now.items

pub returns-clause-spot : goal.returns-clause-spot
returns-clause-spot c =
    spot_named c.number_of.new.routines.items c.in-Some.place.now.routine c.in_ok-number.number c.in-Some.place.now.line c.in_ok-number.ensures.name
    ∙ sym (ap (λ p. line_at p) c.in-Some.is)

pub returns-clause-kept : goal.returns-clause-kept
returns-clause-kept c = kept_named c.number_of.new.routines.items c.in-Some.place.now.routine c.in_ok-number.number c.in_ok-number.ensures.name
