use Rattle.std.proofs.Common.{◌≡◌, ◌<◌, Some, refl, subst, arith}
use Rattle.std.specs.Prelude.{slice_get, length}
use Rattle.std.proofs.lemmas.Option.{slice_get_read}
use Rattle.mj_ask.specs.declared.noted.Noted.{Noted}
use Rattle.mj_retrace.specs.Instead.{IsFront}
use Rattle.mj_retrace.proofs.Through.{none_over}
use Rattle.mj_retrace.proofs.Fronts.{front_none, front_short, front_more}
use Rattle.mj_retrace.proofs.doing.makes_front.Goals as goal

pub loop-place-init : goal.loop-place-init
loop-place-init g c = front_none c.args.events.now c.args.core.now c.requires.none c.requires.over

pub make_again-requires-clause-short : goal.make_again-requires-clause-short
make_again-requires-clause-short g c =
    front_short c.args.core.now.image c.args.events.now c.loop-place.place c.loop-place.core c.loop-place.invariant
    (omega (arith, c.loop-place-test.true, c.requires.within)) c.requires.short

pub make_again-requires-clause-going : goal.make_again-requires-clause-going
make_again-requires-clause-going g c = none_over c.loop-place.core.over c.index-events-place.result.job c.loop-place.invariant.going

pub loop-place-preserved : goal.loop-place-preserved
loop-place-preserved g c =
    let events = c.args.events.now in
    let k = c.loop-place.place in
    let e : Noted = c.index-events-place.result in
    let less : k < length events = omega (arith, c.loop-place-test.true, c.requires.within) in
    let there : slice_get events k ≡ Some e = slice_get_read events (length events) k e refl less c.index-events-place.is in
    front_more g.O.Opening.opening c.args.core.now.image events k e there c.loop-place.core c.make_again.new.core c.loop-place.invariant
    (c.in_ok-make_again.ensures.made c.if-not-branch.false) c.in_ok-make_again.ensures.image (c.in_ok-make_again.ensures.over c.if-not-branch.false)

pub returns : goal.returns
returns g c = λ _.
    let all : c.loop-place.place ≡ c.args.at = omega arith in
    subst (λ n. IsFront c.args.core.now.image c.args.events.now n c.loop-place.core) all c.loop-place.invariant
