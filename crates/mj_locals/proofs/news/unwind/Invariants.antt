use Rattle.std.proofs.Common.{◌≡◌, length}
use Rattle.mj_locals.specs.Held.{after_unwind}
use Rattle.mj_locals.specs.Kept.{held_of, CanBeUndone}
use Rattle.mj_locals.specs.Hiding.{Grows}
use Rattle.mj_locals.proofs.news.unwind.Given as goal

-- what is still to be undone leads to the same
abbrev pub invariant-loop-table : goal.invariant-loop-table
invariant-loop-table l = record {
  held : after_unwind l.height (held_of l.table l.trail) ≡ after_unwind l.height (held_of l.fn.table l.fn.trail);
  kept : CanBeUndone l.table l.trail;
  grows : Grows l.fn.table l.table;
}

abbrev pub decreases-loop-table : goal.decreases-loop-table
decreases-loop-table l = length l.trail
