use Rattle.std.proofs.Common.{ℕ, ◌-◌, ◌||◌, Bool, List, [], ◌∷◌, take, drop, length, Option, sym, ap, subst, arith}
use Rattle.std.specs.Prelude.{MatchOption}
use Rattle.mj_locktab.specs.Trees.{Stands, stand_at, holder_of, is_job, is_in_way, lesser, NoOther, IsLeastOther}
use Rattle.mj_locktab.proofs.Nodes.{first_and_rest}
use Rattle.mj_locktab.proofs.InWay.{joined, none_below, same_below}
use Rattle.mj_locktab.proofs.node.Node.+least_other.Goals as goal
use Rattle.mj_locktab.proofs.node.Node.+least_other.Goals.{in-None, in-Some}

pub returns-clause-least : goal.returns-clause-least
returns-clause-least t c =
    let node = c.args.self.now in
    let job = c.args.job in
    let s = c.sub-item.result in
    let rest = take (length c.args.path.now - 1) (drop 1 c.args.path.now) in
    let under : ℕ → Bool = is_in_way (λ q. stand_at node (s ∷ q)) rest in
    let below : MatchOption c.match-down.below (NoOther under job) (IsLeastOther under job) =
    elim c.match-down.branch [
      | in-None w ↦ subst (λ (r : Option ℕ). MatchOption r (NoOther under job) (IsLeastOther under job)) (sym w.below-is) (none_below node s rest job w.in-None.ensures.child)
      | in-Some w ↦ subst (λ (r : Option ℕ). MatchOption r (NoOther under job) (IsLeastOther under job)) (sym w.below-is)
          (same_below node w.in-Some.child.now s rest job w.least_other-below.result w.in-Some.ensures.child w.least_other-below.ensures.least)
    ] in
    let told = joined (is_job c.self.inside.holder) under job c.other_than.result c.match-down.below c.other_than.ensures below in
    let least = lesser c.other_than.result c.match-down.below in
    let seen = subst (λ (o : Option ℕ). MatchOption least (NoOther (λ j. is_job o j || under j) job) (IsLeastOther (λ j. is_job o j || under j) job))
    (ap (λ (v : Stands). holder_of (stand_at v [])) c.self.view_is) told in
    let whole = subst (λ (p : List (List ℕ)). MatchOption least (NoOther (is_in_way (stand_at node) p) job) (IsLeastOther (is_in_way (stand_at node) p) job))
    (sym (first_and_rest c.args.path.now s c.in-len1-up.len_at_least c.sub-item.is)) seen in
    subst (λ (r : Option ℕ). MatchOption r (NoOther (is_in_way (stand_at node) c.args.path.now) job) (IsLeastOther (is_in_way (stand_at node) c.args.path.now) job)) (sym c.lower_of.ensures) whole

pub returns-clause-looked : goal.returns-clause-looked
returns-clause-looked t c =
    elim c.match-down.branch [
      | in-None w ↦ omega (arith, w.visits-is, c.down.ensures.visits)
      | in-Some w ↦ omega (arith, w.visits-is, c.down.ensures.visits, w.least_other-below.ensures.looked)
    ]
