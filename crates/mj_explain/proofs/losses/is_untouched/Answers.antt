use Rattle.std.proofs.Common.{◌≡◌, ℕ, false, ap, sym, ◌∙◌, arith}
use Rattle.std.specs.Prelude.{slice_get}
use Rattle.mj_explain.specs.Events.{is_touch_of}
use Rattle.mj_explain.proofs.Begun.{got}
use Rattle.mj_explain.proofs.Between.{between_more}
use Rattle.mj_explain.proofs.losses.is_untouched.Goals as goal

pub loop-place-preserved : goal.loop-place-preserved
loop-place-preserved c =
    let es = c.args.events.now in
    let place = c.loop-place.place in
    let name = c.args.name.now in
    let no : is_touch_of c.args.job name (slice_get es place) ≡ false =
    ap (is_touch_of c.args.job name) (sym (got es place c.get.result c.get.ensures.lookup)) ∙ sym c.is_touch_of.ensures ∙ c.if-is_touch_of.false in
    between_more (λ (k : ℕ). is_touch_of c.args.job name (slice_get es k) ≡ false) c.args.after place c.loop-place.invariant no

pub returns : goal.returns
returns c = λ _ k more less. c.loop-place.invariant k more (omega (arith, less))
