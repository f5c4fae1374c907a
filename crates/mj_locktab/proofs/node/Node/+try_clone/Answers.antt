use Rattle.std.proofs.Common.{[], ◌∷◌, sym, ◌∙◌, subst}
use Rattle.std.specs.List.Sorted.{IsStrictlySortedBy}
use Rattle.std.specs.Map.{keys_of}
use Rattle.mj_subs.specs.Collation.{subscript_cmp}
use Rattle.mj_subs.specs.Laws.Total.{subscript_cmp_total}
use Rattle.mj_locktab.specs.Trees.{Kids, below, AreCounted, NoneBare}
use Rattle.mj_locktab.proofs.Copies.{copied_one, copied_all}
use Rattle.mj_locktab.proofs.node.Node.+try_clone.Goals as goal

pub loop-sub-preserved : goal.loop-sub-preserved
loop-sub-preserved t c =
    copied_one subscript_cmp subscript_cmp_total c.loop-sub.children.entries c.loop-sub.sub-iterator c.next.new.self _ c.add.new.children.entries c.in-Some.sub.now c.in-Some.child.now
    c.in_ok-try_clone.field-0 c.loop-sub.invariant c.in-Some.ensures.steps c.in_ok-try_clone.ensures c.in_ok-add.ensures.ok
    (subst (λ (es : Kids). IsStrictlySortedBy subscript_cmp (keys_of es)) (sym c.into_iter-sub-iterator.ensures.into_iter_gives.0) c.self.invariant.0)

pub invariant_of-result : goal.invariant_of-result
invariant_of-result t c =
    let all = copied_all subscript_cmp subscript_cmp_total c.loop-sub.children.entries c.loop-sub.sub-iterator c.self.inside.children.entries
    (c.loop-sub.invariant ∙ c.into_iter-sub-iterator.ensures.into_iter_gives.0) c.in-None.ensures.steps.0 in (
      subst (λ (es : Kids). IsStrictlySortedBy subscript_cmp (keys_of es)) (sym all) c.self.invariant.0,
      subst AreCounted (sym c.in_ok-try_clone-2.ensures) c.self.invariant.1,
      subst (NoneBare subscript_cmp) (sym all) c.self.invariant.2,
    )

pub returns : goal.returns
returns t c =
    let all = copied_all subscript_cmp subscript_cmp_total c.loop-sub.children.entries c.loop-sub.sub-iterator c.self.inside.children.entries
    (c.loop-sub.invariant ∙ c.into_iter-sub-iterator.ensures.into_iter_gives.0) c.in-None.ensures.steps.0 in
    (λ i. ([], (c.self.inside.holder, c.in_ok-try_clone-2.ensures i)) ∷ below (all i)) ∙ c.self.view_is
