-- What is seen of many jobs on one thread.
use Rattle.std.specs.Prelude.{ℕ, zero, suc, List, [], Bool, true, false, Option, None, replicate, slice_set}
use Rattle.std.specs.List.{slice_index_or}
use Rattle.mj_ask.specs.declared.ask.Ask.{Ask}
use Rattle.mj_semantics.specs.State.{Locals, Place}
use Rattle.mj_load.specs.Image.{Loaded}
use Rattle.mj_jobs.specs.Rows.{rows_limit}
use Rattle.mj_sys.specs.History.{History}

-- A job that stands at an ask: what it asks; its locals there, and the places of its frames; and whether it has its reply, and hasn't gone on with it yet.
pub record AtAsk : Type 0 where
  pub ask : Ask
  pub locals : Locals
  pub places : List Place
  pub answered : Bool

-- The routines; the history of all events; and for each job that there may be, the first job first, whether a step saw its end, how many turns its steps
-- let it go on for since its last reply, and how it stands, where it stands at an ask. One that waits for a reply stands at its ask.
pub record Shown : Type 0 where
  pub image : Loaded
  pub history : History
  pub over : List Bool
  pub spent : List ℕ
  pub stands : List (Option AtAsk)

-- a core of which nothing was asked yet, for each job that there may be
abbrev pub begun : Loaded → Shown
begun image = record { image = image; history = []; over = replicate rows_limit false; spent = replicate rows_limit 0; stands = replicate rows_limit None }

-- whether the end of a job was seen
abbrev pub was_over : List Bool → ℕ → Bool
was_over over zero = false
was_over over (suc k) = slice_index_or over k false

-- the end of a job was seen now
abbrev pub with_over : List Bool → ℕ → List Bool
with_over over zero = over
with_over over (suc k) = slice_set over k true

-- the turns that a job was let go on for
abbrev pub spent_by : List ℕ → ℕ → ℕ
spent_by spent zero = 0
spent_by spent (suc k) = slice_index_or spent k 0

-- a job was let go on for so many turns
abbrev pub with_spent : List ℕ → ℕ → ℕ → List ℕ
with_spent spent zero turns = spent
with_spent spent (suc k) turns = slice_set spent k turns

-- how a job stands, where it stands at an ask
abbrev pub stand_at : List (Option AtAsk) → ℕ → Option AtAsk
stand_at stands zero = None
stand_at stands (suc k) = slice_index_or stands k None

-- a job stands so now, or at no ask
abbrev pub with_stand : List (Option AtAsk) → ℕ → Option AtAsk → List (Option AtAsk)
with_stand stands zero stand = stands
with_stand stands (suc k) stand = slice_set stands k stand
