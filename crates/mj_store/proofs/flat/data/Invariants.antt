use Rattle.std.proofs.Common.{◌≡◌, ◌||◌, not, drop}
use Rattle.std.specs.List.{list_any}
use Rattle.mj_store.specs.Nodes.{is_empty}
use Rattle.mj_store.specs.Questions.{subtree_at}
use Rattle.mj_store.proofs.flat.data.Given as goal

-- what was found, or is still found, is what stands in the whole
abbrev pub invariant-loop-entry : goal.invariant-loop-entry
invariant-loop-entry l =
    record {
      own : (l.own || list_any (λ e. is_empty e.0) (subtree_at (drop l.entry-index l.entries) l.name)) ≡ list_any (λ e. is_empty e.0) (subtree_at l.entries l.name);
      below : (l.below || list_any (λ e. not (is_empty e.0)) (subtree_at (drop l.entry-index l.entries) l.name)) ≡ list_any (λ e. not (is_empty e.0)) (subtree_at l.entries l.name);
    }
