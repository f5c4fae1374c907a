use Rattle.std.proofs.Common.{◌≡◌, Some, refl}
use Rattle.std.specs.Prelude.{slice_get, length}
use Rattle.std.proofs.lemmas.Option.{slice_get_read}
use Rattle.std.proofs.lemmas.Result.{err_from_is_err_and}
use Rattle.mj_ask.specs.declared.noted.Noted.{Noted}
use Rattle.mj_retrace.proofs.Through.{none_over, through_short, through_none, through_on, through_off, all_told}
use Rattle.mj_retrace.proofs.retracing.through.Goals as goal

pub loop-place-init : goal.loop-place-init
loop-place-init g c =
    through_none g.O.Opening.opening c.args.events.now c.args.core.now c.new-spots.result.items c.new-holds.result.items c.new-past.result.items c.requires.none c.requires.over
    c.requires.free c.new-spots.ensures.items c.new-holds.ensures.items c.new-past.ensures.items

pub make_again-requires-clause-short : goal.make_again-requires-clause-short
make_again-requires-clause-short g c =
    through_short c.args.core.now.image g.O.Opening.opening c.args.events.now c.loop-place.place c.loop-place.core c.loop-place.spots.items c.loop-place.holds.items c.loop-place.past.items
    c.loop-place.invariant c.loop-place-test.true c.requires.short

pub make_again-requires-clause-going : goal.make_again-requires-clause-going
make_again-requires-clause-going g c = none_over c.loop-place.core.over c.index-events-place.result.job c.loop-place.invariant.going

pub returns-then-not-branch-clause-why : goal.returns-then-not-branch-clause-why
returns-then-not-branch-clause-why g c =
    let events = c.args.events.now in
    let k = c.loop-place.place in
    let e : Noted = c.index-events-place.result in
    let there : slice_get events k ≡ Some e = slice_get_read events (length events) k e refl c.loop-place-test.true c.index-events-place.is in
    through_off c.args.core.now.image g.O.Opening.opening events k e there c.loop-place.core c.loop-place.spots.items c.loop-place.holds.items c.loop-place.past.items c.loop-place.invariant
    c.in_ok-make_again.ensures.run (c.in_ok-make_again.ensures.unmade c.if-not-branch.true)

pub loop-place-preserved : goal.loop-place-preserved
loop-place-preserved g c =
    let events = c.args.events.now in
    let k = c.loop-place.place in
    let e : Noted = c.index-events-place.result in
    let there : slice_get events k ≡ Some e = slice_get_read events (length events) k e refl c.loop-place-test.true c.index-events-place.is in
    let made = c.in_ok-make_again.ensures.made c.if-not-branch.false in
    through_on c.args.core.now.image g.O.Opening.opening events k e there c.loop-place.core c.make_again.new.core c.loop-place.spots.items c.loop-place.holds.items c.loop-place.past.items
    c.loop-place.invariant made c.add_spot.new.spots.items c.locks.result.now.holds c.note_holds.new.holds.items c.note_holds.new.past.items
    c.in_ok-make_again.ensures.image (c.in_ok-make_again.ensures.over c.if-not-branch.false) (c.in_ok-add_spot.ensures made.at made.stands) c.locks.ensures.replay
    c.in_ok-note_holds.ensures.holds c.in_ok-note_holds.ensures.past

pub returns-in_err-make_again-clause-why : goal.returns-in_err-make_again-clause-why
returns-in_err-make_again-clause-why g c = let p = err_from_is_err_and c.from_residual.result c.from_residual.ensures.1 in rw (p.1, p.2) tt

pub returns-in_err-add_spot-clause-why : goal.returns-in_err-add_spot-clause-why
returns-in_err-add_spot-clause-why g c = let p = err_from_is_err_and c.from_residual-in_err-add_spot.result c.from_residual-in_err-add_spot.ensures.1 in rw (p.1, p.2) tt

pub returns-in_err-note_holds-clause-why : goal.returns-in_err-note_holds-clause-why
returns-in_err-note_holds-clause-why g c = let p = err_from_is_err_and c.from_residual-in_err-note_holds.result c.from_residual-in_err-note_holds.ensures.1 in rw (p.1, p.2) tt

pub returns-clause-told : goal.returns-clause-told
returns-clause-told g c =
    all_told c.args.core.now.image g.O.Opening.opening c.args.events.now c.loop-place.place c.loop-place.core c.loop-place.spots.items c.loop-place.holds.items c.loop-place.past.items
    c.in_ok-asked.asked.items c.in_ok-asked.stands.items c.loop-place.invariant c.loop-place-test.false c.len-events.ensures.run c.in_ok-asked.ensures.asked
