use Rattle.std.proofs.Common.{◌≡◌, ◌||◌, drop}
use Rattle.std.specs.Prelude.{option_copied}
use Rattle.std.specs.List.{fold, filter}
use Rattle.std.specs.Ordering.{is_lt}
use Rattle.mj_subs.specs.Collation.{subscript_cmp}
use Rattle.mj_store.specs.Nodes.{is_empty, first_of, along, first_subscripts, next_past}
use Rattle.mj_store.specs.Questions.{subtree_at, with_subscripts}
use Rattle.mj_store.proofs.flat.order.Given as goal

-- the best so far and those to come have the first of all
abbrev pub invariant-loop-entry : goal.invariant-loop-entry
invariant-loop-entry l =
    fold (first_of (along l.direction subscript_cmp)) (option_copied l.best) (filter (λ t. is_empty l.last || is_lt (along l.direction subscript_cmp l.last t))
    (first_subscripts (subtree_at (drop l.entry-index l.entries) (with_subscripts l.name l.front))))
    ≡ next_past subscript_cmp l.direction (is_empty l.last) l.last (first_subscripts (subtree_at l.entries (with_subscripts l.name l.front)))
