use Rattle.std.proofs.Common.{◌≡◌, ap, sym, ◌∙◌, arith}
use Rattle.mj_explain.specs.Landings.{made_at, globals_after, globals_to}
use Rattle.mj_explain.proofs.Counting.{globals_on}
use Rattle.mj_explain.proofs.causes.go_to.Goals as goal

pub loop-place-preserved : goal.loop-place-preserved
loop-place-preserved c =
    let es = c.args.events.now in
    let k = c.loop-place.place in
    c.in_ok-land_made.ensures ∙ ap (globals_after es (made_at es k)) c.loop-place.invariant ∙ sym (globals_on es c.args.globals.now.content k)

pub returns : goal.returns
returns c =
    let all : c.loop-place.place ≡ c.args.end = omega arith in
    c.loop-place.invariant ∙ ap (globals_to c.args.events.now c.args.globals.now.content) all
