-- What is seen of a job that a worker ran.
use Rattle.std.specs.Prelude.{◌≡◌, ℕ, ◌+◌, ◌==◌, List, [], ◌∷◌, Option, Bool, true, false, ⊤, if◌then◌else◌}
use Rattle.mj_ask.specs.declared.ask.Ask.{Ask}
use Rattle.mj_ask.specs.declared.ask.Ask.TheVariants as asks
use Rattle.mj_ask.specs.declared.ask.SharedAsk.TheVariants as shared_asks
use Rattle.mj_ask.specs.Fits.{is_shared}
use Rattle.mj_semantics.specs.State.{Place}
use Rattle.mj_semantics.specs.Program.{Program}
use Rattle.mj_semantics.specs.Job.{Start}
use Rattle.mj_load.specs.Image.{Loaded, program_of}
use Rattle.mj_jobvm.specs.Run.{Log, replies_of, IsTrace, HasEnded}
use Rattle.mj_jobvm.specs.Places.{ArePlaces}
use Rattle.mj_sessions.specs.Follow.{AreTalks}
use Rattle.mj_sys.specs.System.{Claimed}
use Rattle.mj_core.specs.Gives.{Makes}
use Rattle.mj_core.specs.Runs.{start_in}
use Rattle.mj_core.specs.Ties.{shared_in}
use Rattle.mj_gather.specs.declared.ran.Stop.{Stop}
use Rattle.mj_gather.specs.declared.ran.Stop.TheVariants as stops

-- the claim of its row, the image that it ran in, what it asked and was told, where its asks came from, and how it stopped
pub record Kept : Type 0 where
  pub claim : Claimed
  pub image : Loaded
  pub log : Log
  pub places : List (Option Place)
  pub stop : Stop

-- what is asked is the job's end
abbrev pub is_halt : Ask → Bool
is_halt (asks.Shared (shared_asks.Halt fault)) = true
is_halt _ = false

-- nothing stands behind a halt
abbrev pub EndsAtHalt : Log → Type 0
EndsAtHalt [] = ⊤
EndsAtHalt (e ∷ log) = (is_halt e.0 ≡ true → log ≡ []) × EndsAtHalt log

-- Where a job stands that stopped so. It ended only where its run is over. That the history is full stops it only at an ask of what all jobs share, and a
-- refusal only at an ask. Want of memory stops it anywhere.
abbrev pub StopsAt : Program → Start → Log → Stop → Type 0
StopsAt program start log stops.Ended = HasEnded program start log
StopsAt program start log stops.Full = (a : Ask) × Makes program start log a × (is_shared a ≡ true)
StopsAt program start log stops.Memory = ⊤
StopsAt program start log stops.Refused = (a : Ask) × Makes program start log a

-- What a job that a worker ran may be. Its log is a trace of the image's routines from its row's start, and its talks in it obey the device protocol; the
-- claim counts what it asked of all that jobs share; nothing stands behind its halt; and it stands where it may stop so.
pub record IsRan (image : Loaded) (claim : Claimed) (log : Log) (stop : Stop) : Type 0 where
  pub trace : IsTrace (program_of image) (start_in claim.job claim.start) log
  pub talks : AreTalks log
  pub counted : claim.events ≡ shared_in log
  pub ends : EndsAtHalt log
  pub stands : StopsAt (program_of image) (start_in claim.job claim.start) log stop

-- these are the places of what it asked, as the image's routines run from its row's start
abbrev pub ArePlacesIn : Loaded → Claimed → Log → List (Option Place) → Type 0
ArePlacesIn image claim log places = ArePlaces (program_of image) (start_in claim.job claim.start) (replies_of log) places

-- where what a job asked came from: nothing, where it wasn't run
abbrev pub places_in : List Kept → ℕ → List (Option Place)
places_in [] job = []
places_in (r ∷ rans) job = if r.claim.job == job then r.places else places_in rans job

-- what a job asked and was told: nothing, where it wasn't run
abbrev pub log_in : List Kept → ℕ → Log
log_in [] job = []
log_in (r ∷ rans) job = if r.claim.job == job then r.log else log_in rans job

-- how many events the claims count together
abbrev pub counted : List Kept → ℕ
counted [] = 0
counted (r ∷ rans) = r.claim.events + counted rans
