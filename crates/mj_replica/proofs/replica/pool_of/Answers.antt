use Rattle.std.specs.Prelude.{slice_index_or}
use Rattle.std.proofs.Common.{ℕ, ◌-◌, List, ◌∷◌, length, sym, ap, ◌∙◌, subst}
use Rattle.mj_dev.specs.Shelves.{Shelf, IsBelow}
use Rattle.mj_replica.specs.Replicas.{counted_shelf}
use Rattle.mj_replica.proofs.Pools.{so_far_below, so_far_on}
use Rattle.mj_replica.proofs.replica.pool_of.Goals as goal

pub add-requires-clause-below : goal.add-requires-clause-below
add-requires-clause-below c =
    let e = c.index-counts-counts.result in
    let P : List ℕ × ℕ → Type 0 = λ x. IsBelow x.0 c.loop-left.pool in
    let Q : List Shelf → Type 0 = λ l. IsBelow (slice_index_or c.args.counts.now (length c.args.counts.now - 1 - c.loop-left.left) e).0 l in
    subst P (sym c.index-counts-counts.is) (subst Q (sym c.loop-left.invariant) (so_far_below c.args.counts.now c.loop-left.left e c.loop-left-test.true c.requires.rising))

pub loop-left-preserved : goal.loop-left-preserved
loop-left-preserved c =
    let e = c.index-counts-counts.result in
    c.in_ok-add.ensures ∙ ap (λ (x : List ℕ × ℕ). counted_shelf x ∷ c.loop-left.pool) c.index-counts-counts.is
    ∙ ap (λ l. counted_shelf (slice_index_or c.args.counts.now (length c.args.counts.now - 1 - c.loop-left.left) e) ∷ l) c.loop-left.invariant
    ∙ so_far_on c.args.counts.now c.loop-left.left e c.loop-left-test.true
