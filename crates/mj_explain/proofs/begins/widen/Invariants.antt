use Rattle.std.proofs.Common.{◌≡◌, ℕ, ◌+◌, ◌-◌, None, vec_len, slice_index_or}
use Rattle.mj_explain.proofs.begins.widen.Given as goal

abbrev pub invariant-loop-table : goal.invariant-loop-table
invariant-loop-table l = (j : ℕ) → slice_index_or l.table.items j None ≡ slice_index_or l.fn.table.items j None

abbrev pub decreases-loop-table : goal.decreases-loop-table
decreases-loop-table l = l.job + 1 - vec_len l.table
