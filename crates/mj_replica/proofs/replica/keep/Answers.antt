use Rattle.std.specs.Prelude.{All}
use Rattle.std.proofs.Common.{ℕ, ◌≤◌, List, map, sym, ap, ◌∙◌, subst}
use Rattle.mj_replica.specs.Replicas.{counted_shelf}
use Rattle.mj_replica.proofs.Whole.{counts_say, counts_some}
use Rattle.mj_replica.proofs.replica.keep.Goals as goal

pub returns-clause-pool : goal.returns-clause-pool
returns-clause-pool g c = ap (λ l. map counted_shelf l) c.in_ok-counts.ensures.counts ∙ counts_say c.args.pool.now c.requires

pub returns-clause-counted : goal.returns-clause-counted
returns-clause-counted g c =
    let P : List (List ℕ × ℕ) → Type 0 = λ l. All (λ (count : List ℕ × ℕ). 1 ≤ count.1) l in
    subst P (sym c.in_ok-counts.ensures.counts) (counts_some c.args.pool.now c.requires)
