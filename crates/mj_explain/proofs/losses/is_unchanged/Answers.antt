use Rattle.std.proofs.Common.{◌≡◌, ℕ, false, sym, ◌∙◌, arith}
use Rattle.mj_explain.specs.Landings.{made_at}
use Rattle.mj_explain.specs.Losses.{are_to}
use Rattle.mj_explain.proofs.Between.{between_more}
use Rattle.mj_explain.proofs.losses.is_unchanged.Goals as goal

pub loop-place-preserved : goal.loop-place-preserved
loop-place-preserved c =
    between_more (λ (k : ℕ). are_to c.args.events.now c.args.name.now (made_at c.args.events.now k) ≡ false) c.args.after c.loop-place.place
    c.loop-place.invariant (sym c.in_ok-changes.ensures ∙ c.if-branch.false)

pub returns : goal.returns
returns c = λ _ k more less. c.loop-place.invariant k more (omega (arith, less))
