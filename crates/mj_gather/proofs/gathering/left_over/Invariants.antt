use Rattle.std.proofs.Common.{◌≡◌, ◌≤◌, ℕ, []}
use Rattle.mj_gather.specs.Lent.{lent, left_at}
use Rattle.mj_gather.proofs.gathering.left_over.Given as goal

abbrev pub invariant-loop-at : goal.invariant-loop-at
invariant-loop-at l = (job : ℕ) → job ≤ l.at → left_at (lent l.logs) l.places job ≡ []
