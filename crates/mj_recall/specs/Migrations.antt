-- What a migration gives to be written.
use Rattle.std.specs.Prelude.{◌≡◌}
use Rattle.mj_trace.specs.Lines.{IsTrace}
use Rattle.mj_trace.specs.Trace.{version_of}
use Rattle.mj_replay.specs.declared.migrating.Migrated.{Migrated}
use Rattle.mj_replay.specs.declared.migrating.Migrated.TheVariants as migrated

-- a trace that can be written, of today's form, if there is one
abbrev pub IsNewer : Migrated → Type 0
IsNewer (migrated.To new) = IsTrace new × (version_of new.form ≡ 2)
IsNewer (migrated.Differs at) = Unit {0}
