-- The first events of a record, played again.
use Rattle.std.specs.Prelude.{◌≡◌, ℕ, zero, suc, ◌<◌, ◌≤◌, List, [], ◌∷◌, length, map, take, slice_get, All, true, Option, Some, None, option_map}
use Rattle.mj_ask.specs.Started.{Started}
use Rattle.mj_store.specs.Questions.{Content}
use Rattle.mj_dev.specs.Shelves.{Shelf, shelf_of, AreRising, principal, left_of}
use Rattle.mj_jobs.specs.Rows.{rows_limit}
use Rattle.mj_load.specs.Image.{Loaded, program_of}
use Rattle.mj_jobvm.specs.Jobs.{Running}
use Rattle.mj_sys.specs.declared.event.Event.{Event}
use Rattle.mj_sys.specs.Opening.{opening_of, are_bare}
use Rattle.mj_sys.specs.Shared.{Shared, are_global}
use Rattle.mj_sys.specs.History.{History, state_of}
use Rattle.mj_sys.specs.System.{Recorded}
use Rattle.mj_replica.specs.declared.replica.Unshown.{Unshown}
use Rattle.mj_replica.specs.declared.replica.Unshown.TheVariants as unshown
use Rattle.mj_replica.specs.Replays.{IsLong}
use Rattle.mj_replica.specs.Playing.{Playing, AreStaged}

-- what a run can be begun with once more: the globals, each device name with the number of its devices, and the starts
pub record Keeping : Type 0 where
  pub globals : Content
  pub counts : List (List ℕ × ℕ)
  pub starts : List Started

-- a name with so many devices, of which none was taken
abbrev pub counted_shelf : List ℕ × ℕ → Shelf
counted_shelf count = shelf_of count.1 count.0

abbrev pub shelves_of : Keeping → List Shelf
shelves_of kept = map counted_shelf kept.counts

-- each name has devices, of which none was taken
abbrev pub AreWhole : List Shelf → Type 0
AreWhole [] = Unit {0}
AreWhole (shelf ∷ shelves) = (1 ≤ shelf.left) × (shelf.taken ≡ 0) × AreWhole shelves

-- from what is kept a run begins with this opening
pub record BeginsRun (opening : Shared) (kept : Keeping) : Type 0 where
  pub same : opening_of kept.globals (shelves_of kept) kept.starts ≡ opening
  pub global : are_global kept.globals ≡ true
  pub some : 1 ≤ length kept.starts
  pub few : length kept.starts ≤ rows_limit
  pub fit : length kept.starts ≤ left_of principal (shelves_of kept)
  pub bare : are_bare kept.starts ≡ true
  pub rising : AreRising (shelves_of kept)
  pub counted : All (λ count. 1 ≤ count.1) kept.counts

-- the system and the jobs of a run that is played again, and how many events were played
pub record Replayed : Type 0 where
  pub system : Recorded
  pub jobs : List Playing
  pub made : ℕ

-- it has played the first events of this history
pub record IsReplica (image : Loaded) (opening : Shared) (history : History) (replica : Replayed) : Type 0 where
  pub within : replica.made ≤ length history
  pub staged : AreStaged image opening (take replica.made history) replica.system replica.jobs

-- each job that has a row was started
abbrev pub IsFull : Shared → Replayed → Type 0
IsFull opening replica = length (state_of opening replica.system.history).rows ≤ length replica.jobs

-- a job that was started
abbrev pub job_of : Replayed → ℕ → Option Running
job_of replica zero = None
job_of replica (suc k) = option_map (λ played. played.job) (slice_get replica.jobs k)

-- behind the reply before this event its job went on for longer than it is followed
abbrev pub IsLongAt : Loaded → Shared → History → ℕ → Type 0
IsLongAt image opening history at = (e : Event) × (slice_get history at ≡ Some e) × IsLong (program_of image) opening (take at history) e.job

-- why the events before a place aren't played again
abbrev pub IsUnshown : Loaded → Shared → History → ℕ → Unshown → Type 0
IsUnshown image opening history place unshown.Memory = Unit {0}
IsUnshown image opening history place unshown.Long = (at : ℕ) × (at < place) × IsLongAt image opening history at
