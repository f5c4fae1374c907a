use Rattle.std.proofs.Common.{ℕ, ◌≤◌, drop}
use Rattle.mj_gather.specs.Gathered.{times_run}
use Rattle.mj_gather.proofs.gathering.twice.Given as goal

abbrev pub invariant-loop-at : goal.invariant-loop-at
invariant-loop-at l =
    ((job : ℕ) → 2 ≤ times_run (drop l.at l.rans) job → 2 ≤ times_run l.rans job)
    × (((job : ℕ) → times_run (drop l.at l.rans) job ≤ 1) → (job : ℕ) → times_run l.rans job ≤ 1)
