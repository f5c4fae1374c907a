-- Whose turn it is, of jobs that go on in turn.
use Rattle.std.specs.Prelude.{ℕ, ◌<◌, ◌≤◌, List, ◌⊎◌}
use Rattle.mj_jobs.specs.Rows.{Row, IsLive}

-- no job from this number on goes on
abbrev pub AreOver : List Row → ℕ → Type 0
AreOver rows first = (job : ℕ) → first ≤ job → IsLive rows job → ⊥

-- of the jobs from this number on that go on, this is the lowest
abbrev pub IsLowest : List Row → ℕ → ℕ → Type 0
IsLowest rows first job = (first ≤ job) × IsLive rows job × ((other : ℕ) → first ≤ other → other < job → IsLive rows other → ⊥)

-- whose turn it is: that of the lowest from this number on, or where none from there on goes on, of the lowest of all
abbrev pub IsTurnOf : List Row → ℕ → ℕ → Type 0
IsTurnOf rows turn job = IsLowest rows turn job ⊎ (AreOver rows turn × IsLowest rows 0 job)
