-- Logs of jobs that are borrowed, and what is woven of them.
use Rattle.std.specs.Prelude.{◌≡◌, ℕ, zero, suc, List, [], ◌∷◌, Option, map, drop}
use Rattle.std.specs.Borrow.{Bor}
use Rattle.std.specs.List.{slice_index_or}
use Rattle.mj_jobvm.specs.Run.{Log}
use Rattle.mj_semantics.specs.State.{Place}
use Rattle.mj_sys.specs.History.{History, log_of}
use Rattle.mj_core.specs.declared.happened.Happened.{Happened}
use Rattle.mj_core.specs.Woven.{Logs, woven, AreThere}
use Rattle.mj_gather.specs.Rans.{Kept, log_in, places_in}
use Rattle.mj_gather.specs.Merged.{Left}

-- logs that are lent
abbrev pub lent : List (Bor Log) → Logs
lent logs = map (λ (log : Bor Log). log.now) logs

-- a history of all jobs, and where the asks of each came from, the first job first
pub record Ordered : Type 0 where
  pub history : History
  pub places : List (List (Option Place))

-- the log of a job: of the first 1; where there is none, nothing
abbrev pub log_at : Logs → ℕ → Log
log_at logs zero = []
log_at logs (suc k) = slice_index_or logs k []

-- the logs of so many jobs, from one on
abbrev pub logs_from : List Kept → ℕ → ℕ → Logs
logs_from rans job zero = []
logs_from rans job (suc n) = log_in rans job ∷ logs_from rans (suc job) n

-- the places of the asks of so many jobs, from one on
abbrev pub places_from : List Kept → ℕ → ℕ → List (List (Option Place))
places_from rans job zero = []
places_from rans job (suc n) = places_in rans job ∷ places_from rans (suc job) n

-- what is woven of logs has each entry that is written down, and of each job its whole log, in order
pub record IsWhole (logs : Logs) (order : List Happened) : Type 0 where
  pub there : AreThere logs order
  pub whole : (job : ℕ) → log_of job (woven logs order) ≡ log_at logs job

-- how many entries of a job's log are past
abbrev pub place_at : List ℕ → ℕ → ℕ
place_at places zero = 0
place_at places (suc k) = slice_index_or places k 0

-- what is left of each log, where so many entries of it are past
abbrev pub left_at : Logs → List ℕ → Left
left_at logs places job = drop (place_at places job) (log_at logs job)
