-- What gathering tells.
use Rattle.std.specs.Prelude.{◌≡◌, ◌≤◌, ◌+◌, ◌⊎◌, ◌==◌, ℕ, List, [], ◌∷◌, ◌++◌, length, count_by}
use Rattle.mj_jobs.specs.Rows.{Row, HasStart}
use Rattle.mj_jobvm.specs.Run.{Log}
use Rattle.mj_sys.specs.Shared.{Shared}
use Rattle.mj_sys.specs.History.{History, state_of, log_of}
use Rattle.mj_gather.specs.Rans.{Kept, log_in}
use Rattle.mj_gather.specs.Merged.{shared_log}
use Rattle.mj_gather.specs.declared.gathering.Ungathered.{Ungathered}
use Rattle.mj_gather.specs.declared.gathering.Ungathered.TheVariants as ungathered

-- two logs differ in their first entry, or one alone has one
abbrev pub HeadsDiffer : Log → Log → Type 0
HeadsDiffer [] [] = ⊥
HeadsDiffer (x ∷ xs) (y ∷ ys) = x ≡ y → ⊥
HeadsDiffer _ _ = Unit {0}

-- two logs have a common front of so many entries, and differ behind it
pub record DifferAt (place : ℕ) (one two : Log) : Type 0 where
  pub front : Log
  pub one_behind : Log
  pub two_behind : Log
  pub one_is : one ≡ front ++ one_behind
  pub two_is : two ≡ front ++ two_behind
  pub there : length front ≡ place
  pub differ : HeadsDiffer one_behind two_behind

-- a job was run that has this number, though it has no row, or one with another start
abbrev pub StartDiffers : List Row → List Kept → ℕ → Type 0
StartDiffers rows [] job = ⊥
StartDiffers rows (r ∷ rans) job = ((r.claim.job ≡ job) × (HasStart rows job r.claim.start → ⊥)) ⊎ StartDiffers rows rans job

-- how many of these are that job
abbrev pub times_run : List Kept → ℕ → ℕ
times_run rans job = count_by (λ r. r.claim.job == job) rans

-- Why nothing is gathered. A job was run twice; or one starts otherwise than its row says, which is place 0; or what the system served by its log and by the
-- history differ, first at that place, of which the first is 1; or memory was refused.
abbrev pub IsUngathered : Shared → History → List Kept → Ungathered → Type 0
IsUngathered opening history rans (ungathered.Twice job) = 2 ≤ times_run rans job
IsUngathered opening history rans (ungathered.Differs job place) = StartDiffers (state_of opening history).rows rans job × (place ≡ 0)
    ⊎ ((before : ℕ) × (place ≡ before + 1) × DifferAt before (shared_log (log_in rans job)) (log_of job history))
IsUngathered opening history rans ungathered.Memory = Unit {0}
