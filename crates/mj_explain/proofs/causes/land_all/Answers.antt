use Rattle.std.proofs.Common.{◌≡◌, length, ap, sym, ◌∙◌, arith}
use Rattle.std.proofs.lemmas.Option.{slice_get-get_or}
use Rattle.mj_explain.specs.Events.{change_at}
use Rattle.mj_explain.specs.Landings.{after_change, globals_behind}
use Rattle.mj_explain.proofs.Counting.{behind_on}
use Rattle.mj_explain.proofs.causes.land_all.Goals as goal

pub loop-landing-preserved : goal.loop-landing-preserved
loop-landing-preserved c =
    let es = c.args.events.now in
    let ls = c.args.made.now in
    let i = c.loop-landing.landing-index in
    let there = slice_get-get_or ls i _ c.loop-landing-test.true in
    c.in_ok-land.ensures ∙ ap (after_change (change_at es _)) c.loop-landing.invariant
    ∙ sym (behind_on es ls c.args.globals.now.content i _ there)

pub returns : goal.returns
returns c =
    let all : c.loop-landing.landing-index ≡ length c.args.made.now = omega arith in
    c.loop-landing.invariant ∙ ap (globals_behind c.args.events.now c.args.made.now c.args.globals.now.content) all
