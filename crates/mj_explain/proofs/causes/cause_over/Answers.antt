use Rattle.std.proofs.Common.{◌≡◌, ℕ, length, vec_len, ap, sym, ◌∙◌, subst, eqb-true, arith}
use Rattle.mj_explain.specs.Landings.{globals_to}
use Rattle.mj_explain.specs.Clashes.{told_on, IsCause}
use Rattle.mj_explain.proofs.Lasts.{passed, gone_on, none_in}
use Rattle.mj_explain.proofs.causes.cause_over.Goals as goal

pub loop-place-init : goal.loop-place-init
loop-place-init c = (c.in_ok-go_to.ensures, c.in_ok-told.ensures, λ k more less. absurd (omega (arith, more, less)))

pub loop-place-preserved-then-is_empty : goal.loop-place-preserved-then-is_empty
loop-place-preserved-then-is_empty c =
    let empty : vec_len c.in_ok-made.made ≡ 0 = eqb-true (vec_len c.in_ok-made.made) 0 (sym c.if-is_empty.ensures) in
    let none : length c.in_ok-made.made.items ≡ 0 = omega (arith, empty, c.in_ok-made.made.ok.0) in
    passed c.args.events.now c.args.globals.now.content c.args.read.now c.args.own.now c.args.from c.loop-place.place c.loop-place.globals.content
    c.loop-place.found c.loop-place.told c.loop-place.auto.place (sym c.in_ok-made.ensures ∙ none_in c.in_ok-made.made.items none) c.loop-place.invariant.0 c.loop-place.invariant.1
    c.loop-place.invariant.2

pub loop-place-preserved : goal.loop-place-preserved
loop-place-preserved c =
    gone_on c.args.events.now c.args.globals.now.content c.args.read.now c.args.own.now c.args.from c.loop-place.place c.deref.result.now
    c.loop-place.globals.content c.turn.new.globals.content c.loop-place.found _ c.later-found.result c.is_same_answer-same.result c.loop-place.told
    _ c.loop-place.auto.place (c.deref.ensures.value ∙ c.in_ok-made.ensures) c.loop-place.invariant.0 c.loop-place.invariant.1 c.loop-place.invariant.2
    c.in_ok-now.ensures.globals c.in_ok-now.ensures.now c.in_ok-now.ensures.last c.is_same_answer-same.ensures c.later-found.ensures

pub returns-clause-now : goal.returns-clause-now
returns-clause-now c =
    let all : c.loop-place.place ≡ c.args.end = omega arith in
    c.loop-place.invariant.1
    ∙ ap (told_on c.args.read.now c.args.own.now)
    (c.loop-place.invariant.0 ∙ ap (globals_to c.args.events.now c.args.globals.now.content) all)

pub returns-clause-cause : goal.returns-clause-cause
returns-clause-cause c =
    let all : c.loop-place.place ≡ c.args.end = omega arith in
    subst (λ (n : ℕ). IsCause c.args.events.now c.args.globals.now.content c.args.read.now c.args.own.now c.args.from n c.loop-place.found) all
    c.loop-place.invariant.2
