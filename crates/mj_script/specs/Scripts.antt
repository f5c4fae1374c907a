-- What runs begin with.
use Rattle.std.specs.Prelude.{◌≡◌, ℕ, List, [], map, slice_get, Some, None}
use Rattle.std.specs.List.{AllZip}
use Rattle.mj_text.specs.declared.limit.Limit.TheVariants.{V2}
use Rattle.mj_ask.specs.Started.{Started}
use Rattle.mj_ask.specs.declared.bounds.TheConstants.{EVENTS_LIMIT}
use Rattle.mj_ast.specs.declared.routine.Routine.{Routine}
use Rattle.mj_ast.specs.Routines.{IsName}
use Rattle.mj_ast.specs.Trees.{routine_of}
use Rattle.mj_rou.specs.Read.{IsRoutineRead, IsRoutineRefused}
use Rattle.mj_rou.specs.declared.error.LoadError.TheVariants as refusals
use Rattle.mj_store.specs.Questions.{Content}
use Rattle.mj_dev.specs.Shelves.{Shelf}
use Rattle.mj_files.specs.Named.{with_principals, with_devices}
use Rattle.mj_jobs.specs.Rows.{rows_limit}
use Rattle.mj_load.specs.Image.{Loaded, repeated}
use Rattle.mj_sys.specs.Opening.{opening_of}
use Rattle.mj_sys.specs.Shared.{Shared}
use Rattle.mj_script.specs.declared.script.Source.{Source}
use Rattle.mj_script.specs.declared.script.Supply.{Supply}
use Rattle.mj_script.specs.declared.script.Unread.{Unread}
use Rattle.mj_script.specs.declared.script.Unread.TheVariants as unread

-- the name and the bytes of each routine; where the first jobs start; and the name of each device beside the principal ones
pub record Scripted : Type 0 where
  pub sources : List (List ℕ × List ℕ)
  pub starts : List Started
  pub devices : List (List ℕ)

-- the name and the bytes of a routine
abbrev pub source_of : Source → List ℕ × List ℕ
source_of source = (source.name.items, source.bytes.items)

abbrev pub sources_of : List Source → List (List ℕ × List ℕ)
sources_of sources = map source_of sources

-- the names of devices
abbrev pub supply_names : List Supply → List (List ℕ)
supply_names supplies = map (λ supply. supply.name) supplies

-- The routine is what the bytes spell, and has that name. They spell no other.
abbrev pub IsReadFrom : List ℕ × List ℕ → Routine → Type 0
IsReadFrom source routine = (routine.name ≡ source.0) × IsName source.0 × IsRoutineRead source.0 source.1 (routine_of routine)

-- an image of these routines, in order, with the greater limit of texts, in which a run has as many events as where nothing else is said
abbrev pub IsImageOf : List (List ℕ × List ℕ) → Loaded → Type 0
IsImageOf sources image = AllZip IsReadFrom sources image.routines × (image.bounds ≡ record { limit = V2; events = EVENTS_LIMIT })

-- each is that of a routine, and no two have one name
abbrev pub CanBeLoaded : List (List ℕ × List ℕ) → Type 0
CanBeLoaded sources = ((routines : List Routine) × AllZip IsReadFrom sources routines) × (repeated [] (map (λ source. source.0) sources) ≡ None)

-- why a routine isn't read; want of memory says nothing
abbrev pub IsSourceUnread : List ℕ × List ℕ → Unread → Type 0
IsSourceUnread source (unread.Routine refusal) = IsRoutineRefused source.0 source.1 refusal × (refusal ≡ refusals.Memory → ⊥)
IsSourceUnread source (unread.Twice name) = ⊥
IsSourceUnread source unread.Memory = Unit {0}

-- why routines aren't loaded: one isn't read, or has the name of an earlier one
abbrev pub IsUnread : List (List ℕ × List ℕ) → Unread → Type 0
IsUnread sources (unread.Routine refusal) =
    (at : ℕ) × (source : List ℕ × List ℕ) × (slice_get sources at ≡ Some source) × IsSourceUnread source (unread.Routine refusal)
IsUnread sources (unread.Twice name) = repeated [] (map (λ source. source.0) sources) ≡ Some name
IsUnread sources unread.Memory = Unit {0}

-- the devices: a principal one for each job that there may be, and these
abbrev pub pool_in : Scripted → List Shelf
pool_in script = with_devices script.devices (with_principals rows_limit)

-- what is shared as a run begins, over these globals
abbrev pub opening_in : Scripted → Content → Shared
opening_in script globals = opening_of globals (pool_in script) script.starts
