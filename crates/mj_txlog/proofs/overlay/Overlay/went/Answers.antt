use Rattle.std.proofs.Common.{rules, ◌≡◌, ◌≤◌, [], false, suc, length, ℕ, sym, ap, ◌∙◌, subst, arith}
use Rattle.mj_store.specs.Questions.{Content}
use Rattle.mj_txlog.specs.Laid.{Laid, went, went_before}
use Rattle.mj_txlog.proofs.Laid.{none_went, went_front}
use Rattle.mj_txlog.proofs.overlay.Overlay.went.Goals as goal

-- where nothing was killed no name went
pub returns-then-not-self : goal.returns-then-not-self
returns-then-not-self c =
    let none : c.args.self.now.gone ≡ [] = sym (ap (λ (o : Laid). o.gone) c.self.view_is) ∙ c.self.invariant (search rules) in
    sym (subst (λ (g : Content). went g c.args.name.now ≡ false) (sym none) (none_went c.args.name.now (suc (length c.args.name.now.subscripts))))

pub returns-then-is_some : goal.returns-then-is_some
returns-then-is_some c =
    let few : c.loop-count.count ≤ length c.args.name.now.subscripts = omega (arith, c.loop-count-test.true, ap length c.as_slice-list.ensures.value, ap length c.subscripts.ensures) in
    sym (went_front c.args.self.now.gone c.args.name.now c.loop-count.count few (search rules))

pub returns : goal.returns
returns c =
    let all : c.loop-count.count ≡ suc (length c.args.name.now.subscripts) =
    omega (arith, c.loop-count-test.false, c.loop-count.auto.count-end, ap length c.as_slice-list.ensures.value, ap length c.subscripts.ensures) in
    sym (subst (λ (k : ℕ). went_before c.args.self.now.gone c.args.name.now k ≡ false) all c.loop-count.invariant)
