use Rattle.std.proofs.Common.{◌≡◌, ◌-◌, ◌++◌, refl, ap, sym, ◌∙◌, arith}
use Rattle.std.specs.Prelude.{slice_get}
use Rattle.mj_txlog.specs.Accesses.{Accesses}
use Rattle.mj_explain.specs.Events.{change_at}
use Rattle.mj_explain.specs.Clashes.{own_at, own_in}
use Rattle.mj_explain.proofs.Counting.{own_on, own_none, same_span}
use Rattle.mj_explain.proofs.causes.own_in.Goals as goal

pub loop-place-init : goal.loop-place-init
loop-place-init c =
    let none = own_none c.args.events.now c.args.job c.args.from c.args.from (omega arith) in
    (c.new-own.ensures.items ∙ sym none, λ _. refl)

pub loop-place-preserved : goal.loop-place-preserved
loop-place-preserved c =
    let es = c.args.events.now in
    let k = c.loop-place.place in
    let on = own_on es c.args.job c.args.from k c.loop-place.auto.place in (
      c.in_ok-add_own.ensures
          ∙ ap (λ (own : Accesses). own ++ own_at c.args.job (slice_get es k) (change_at es k)) c.loop-place.invariant.0
          ∙ sym on,
      λ less. absurd (omega (arith, less)),
    )

pub returns : goal.returns
returns c =
    let same : c.loop-place.place - c.args.from ≡ c.args.end - c.args.from =
    same_span c.args.from c.args.end c.loop-place.place c.loop-place.auto.place c.loop-place-test.false c.loop-place.auto.place-end c.loop-place.invariant.1 in
    c.loop-place.invariant.0 ∙ ap (own_in c.args.events.now c.args.job c.args.from) same
