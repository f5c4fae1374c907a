use Rattle.std.proofs.Common.{◌≡◌, ◌<◌, ℕ, List, Option, length, take, ap, ◌∙◌, subst, arith}
use Rattle.std.specs.Prelude.{get_or}
use Rattle.std.specs.Option.{IfSome}
use Rattle.mj_subs.specs.Name.{Name}
use Rattle.mj_store.specs.Questions.{with_subscripts}
use Rattle.mj_store.specs.declared.store.Direction.TheVariants as way
use Rattle.mj_txlog.specs.Skips.{IsBare, IsFar}
use Rattle.mj_txlog.proofs.Bare.{covered, begin_bare, far_jump}
use Rattle.mj_txlog.proofs.next.is_covered.Goals as goal

pub returns-in-Some : goal.returns-in-Some
returns-in-Some c e g gone skips =
    let n = c.args.name.now in
    let list = c.as_slice-list.result.now in
    let k = c.loop-count.count in
    let x = c.index-list-count.result in
    let same : list ≡ n.subscripts = c.as_slice-list.ensures.value ∙ c.subscripts.ensures in
    let few : k < length n.subscripts = omega (arith, c.loop-count-test.true, ap length same) in
    let far : IsFar c.args.skips.now c.in_ok-above.above x way.Forward c.in-Some.far =
    subst (λ (r : Option (List ℕ)). IfSome r (λ far. IsFar c.args.skips.now c.in_ok-above.above x way.Forward far)) c.in-Some.is c.in_ok-far.ensures
    in
    covered g gone n k x few (subst (λ (l : List (List ℕ)). x ≡ get_or l k x) same c.index-list-count.is)
    (subst (λ (l : List (List ℕ)). IsBare g gone (with_subscripts n (take k l)) x) same
    (subst (λ (m : Name). IsBare g gone m x) c.in_ok-above.ensures
    (begin_bare g gone c.in_ok-above.above way.Forward x c.in-Some.far (far_jump g gone c.args.skips.now c.in_ok-above.above way.Forward x c.in-Some.far skips far))))
