use Rattle.std.proofs.Common.{◌≡◌, ◌≤◌, Some, length, arith}
use Rattle.std.specs.Prelude.{slice_get}
use Rattle.std.proofs.lemmas.Option.{slice_get_within}
use Rattle.mj_retrace.proofs.Fronts.{got_event, all_in_place}
use Rattle.mj_retrace.proofs.doing.instead_of.Goals as goal

pub makes_front-requires-clause-within : goal.makes_front-requires-clause-within
makes_front-requires-clause-within g c =
    let there : slice_get c.args.events.now c.args.at ≡ Some c.in-Some.event.now =
    got_event c.args.events.now c.args.at c.get.result c.in-Some.event c.in-Some.is c.get.ensures.lookup in
    omega (arith, slice_get_within c.args.events.now c.args.at c.in-Some.event.now there)

pub returns : goal.returns
returns g c =
    let events = c.args.events.now in
    let there : slice_get events c.args.at ≡ Some c.in-Some.event.now = got_event events c.args.at c.get.result c.in-Some.event c.in-Some.is c.get.ensures.lookup in
    all_in_place g.O.Opening.opening c.args.core.now.image events c.args.at c.in-Some.event.now there c.makes_front.new.core
    (c.in_ok-makes_front.ensures c.if-not-branch.false) c.does_there.result c.does_there.ensures
