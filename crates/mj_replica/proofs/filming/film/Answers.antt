use Rattle.std.proofs.Common.{◌≡◌, ◌+◌, ◌<◌, length, arith}
use Rattle.mj_replica.proofs.Viewing.{kept_view}
use Rattle.mj_replica.proofs.filming.film.Goals as goal

pub returns-in_err-play-clause-views : goal.returns-in_err-play-clause-views
returns-in_err-play-clause-views g c =
    let within : c.loop.counter < length c.args.core.now.history = (let test = c.loop-test.true in let end = c.requires.within in omega (arith, test, end)) in
    let kept =
    kept_view c.args.core.now.image c.image.result.now g.O.Opening.opening c.args.core.now.history c.loop.replica c.fill.new.self c.loop.views c.keep_view.new.views c.loop.counter c.keep_view.result
    c.image.ensures c.loop.invariant.0 c.loop.invariant.1 c.in-Ok.ensures.ok c.in-Ok.ensures.made c.in-Ok.ensures.full c.loop.invariant.2 c.loop.invariant.3 within c.keep_view.ensures
    c.if-not-keep_view.false in
    kept.0

pub loop-preserved : goal.loop-preserved
loop-preserved g c =
    let within : c.loop.counter < length c.args.core.now.history = (let test = c.loop-test.true in let end = c.requires.within in omega (arith, test, end)) in
    let kept =
    kept_view c.args.core.now.image c.image.result.now g.O.Opening.opening c.args.core.now.history c.loop.replica c.fill.new.self c.loop.views c.keep_view.new.views c.loop.counter c.keep_view.result
    c.image.ensures c.loop.invariant.0 c.loop.invariant.1 c.in-Ok.ensures.ok c.in-Ok.ensures.made c.in-Ok.ensures.full c.loop.invariant.2 c.loop.invariant.3 within c.keep_view.ensures
    c.if-not-keep_view.false in
    let made : c.play.new.self.made ≡ c.loop.counter + 1 =
    (let one = c.in_ok-play.ensures.made in let filled = c.in-Ok.ensures.made in let so = c.loop.invariant.1 in omega (arith, one, filled, so)) in
    (c.in_ok-play.ensures.ok, made, kept.0, kept.1)
