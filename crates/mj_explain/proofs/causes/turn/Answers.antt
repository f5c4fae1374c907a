use Rattle.std.proofs.Common.{◌≡◌, ℕ, length, refl, ap, ◌∙◌, subst, arith}
use Rattle.mj_explain.specs.Landings.{globals_behind}
use Rattle.mj_explain.specs.Clashes.{told_on, IsLast}
use Rattle.mj_explain.proofs.Lasts.{turned}
use Rattle.mj_explain.proofs.causes.turn.Goals as goal

pub loop-landing-init : goal.loop-landing-init
loop-landing-init c = (refl, c.in_ok-told.ensures, λ j less. absurd (omega (arith, less)))

pub loop-landing-preserved : goal.loop-landing-preserved
loop-landing-preserved c =
    turned c.args.events.now c.args.made.now c.args.globals.now.content c.args.read.now c.args.own.now c.loop-landing.landing-index _
    c.loop-landing.globals.content c.land.new.globals.content c.loop-landing.found c.newer-found.result c.is_same_answer-same.result c.loop-landing.told
    c.in_ok-now.now c.loop-landing-test.true c.loop-landing.invariant.0 c.loop-landing.invariant.1 c.loop-landing.invariant.2 c.in_ok-land.ensures
    c.in_ok-now.ensures c.is_same_answer-same.ensures c.newer-found.ensures

pub returns-clause-globals : goal.returns-clause-globals
returns-clause-globals c =
    let all : c.loop-landing.landing-index ≡ length c.args.made.now = omega arith in
    c.loop-landing.invariant.0 ∙ ap (globals_behind c.args.events.now c.args.made.now c.args.globals.now.content) all

pub returns-clause-now : goal.returns-clause-now
returns-clause-now c =
    let all : c.loop-landing.landing-index ≡ length c.args.made.now = omega arith in
    c.loop-landing.invariant.1
    ∙ ap (told_on c.args.read.now c.args.own.now)
    (c.loop-landing.invariant.0 ∙ ap (globals_behind c.args.events.now c.args.made.now c.args.globals.now.content) all)

pub returns-clause-last : goal.returns-clause-last
returns-clause-last c =
    let all : c.loop-landing.landing-index ≡ length c.args.made.now = omega arith in
    subst (λ (n : ℕ). IsLast c.args.events.now c.args.made.now c.args.globals.now.content c.args.read.now c.args.own.now n c.loop-landing.found) all
    c.loop-landing.invariant.2
