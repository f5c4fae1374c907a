-- What a trace says of how its run began, what a replay says of it, and what a migration makes of it.
use Rattle.std.specs.Prelude.{◌≡◌, ℕ, List, [], map}
use Rattle.mj_store.specs.Questions.{Content}
use Rattle.mj_ask.specs.Started.{Started}
use Rattle.mj_ask.specs.declared.entry.Entry.{Entry}
use Rattle.mj_ask.specs.declared.noted.Noted.{Noted}
use Rattle.mj_text.specs.declared.limit.Limit.{Limit}
use Rattle.mj_semantics.specs.Program.{Program}
use Rattle.mj_sys.specs.Opening.{opening_of}
use Rattle.mj_sys.specs.Shared.{Shared}
use Rattle.mj_sys.specs.History.{History}
use Rattle.mj_core.specs.Runs.{IsRun}
use Rattle.mj_replica.specs.declared.replaying.Verdict.{Verdict}
use Rattle.mj_replica.specs.Replays.{history_of, Says, IsFirstUnmade}
use Rattle.mj_replica.specs.Placed.{AllCameFrom, SaysPlaced, IsFirstApart}
use Rattle.mj_trace.specs.declared.form.Form.{Form}
use Rattle.mj_trace.specs.declared.form.Form.TheVariants.{First, Second}
use Rattle.mj_trace.specs.Trace.{Traced, limit_of}
use Rattle.mj_dev.specs.Pools.{shelves_of}
use Rattle.mj_replay.specs.declared.migrating.Migrated.{Migrated}
use Rattle.mj_replay.specs.declared.migrating.Migrated.TheVariants as migrated

-- a first job starts without values
abbrev pub bare_start : Entry → Started
bare_start e = record { entry = e; values = [] }

-- the opening of the run that a trace tells of, over these globals: as many sessions of each device as it says, and its starts
abbrev pub opening_in : Content → Traced → Shared
opening_in globals trace = opening_of globals (shelves_of trace.pool) (map bare_start trace.starts)

-- what a replay says of the events of a trace: the older form has no places
abbrev pub SaysBy : Form → Program → Shared → List Noted → Verdict → Type 0
SaysBy First program opening events verdict = Says program opening (history_of events) verdict
SaysBy (Second limit) program opening events verdict = SaysPlaced program opening events verdict

-- A trace in today's form that tells of the same run: it has the same limit, devices and starts, and the same events, each with the place where its ask came
-- from; and these are a run of its opening. One that has today's form comes back as it is.
pub record IsMigrated (program : Program) (globals : Content) (old new : Traced) : Type 0 where
  pub form : new.form ≡ Second (limit_of old.form)
  pub pool : new.pool ≡ old.pool
  pub starts : new.starts ≡ old.starts
  pub events : history_of new.events ≡ history_of old.events
  pub run : IsRun program (opening_in globals new) (history_of new.events)
  pub from : AllCameFrom program (opening_in globals new) [] new.events
  pub equal : (limit : Limit) → old.form ≡ Second limit → new ≡ old

-- the first event that isn't made, as a replay says
abbrev pub IsUnmigrated : Form → Program → Shared → List Noted → ℕ → Type 0
IsUnmigrated First program opening events at = IsFirstUnmade program opening (history_of events) at
IsUnmigrated (Second limit) program opening events at = IsFirstApart program opening events at

-- what comes of a migration
abbrev pub Migrates : Program → Content → Traced → Migrated → Type 0
Migrates program globals trace (migrated.To new) = IsMigrated program globals trace new
Migrates program globals trace (migrated.Differs at) = IsUnmigrated trace.form program (opening_in globals trace) trace.events at
