use Rattle.std.proofs.Common.{◌≡◌, drop, map, []}
use Rattle.std.specs.Prelude.{option_copied}
use Rattle.std.specs.List.{fold, filter}
use Rattle.std.specs.Ordering.{is_lt}
use Rattle.std.specs.Cmp.Lexicographic.{slice_cmp}
use Rattle.mj_subs.specs.Collation.{subscript_cmp}
use Rattle.mj_store.specs.Nodes.{first_of, next_after}
use Rattle.mj_store.specs.Questions.{subtree_at, with_subscripts}
use Rattle.mj_store.proofs.flat.query.Given as goal

-- the best so far and those to come have the least of all
abbrev pub invariant-loop-entry : goal.invariant-loop-entry
invariant-loop-entry l =
    fold (first_of (slice_cmp subscript_cmp)) (option_copied l.best) (filter (λ q. is_lt (slice_cmp subscript_cmp l.name.subscripts q))
    (map (λ e. e.0) (subtree_at (drop l.entry-index l.entries) (with_subscripts l.name []))))
    ≡ next_after subscript_cmp l.name.subscripts (subtree_at l.entries (with_subscripts l.name []))
