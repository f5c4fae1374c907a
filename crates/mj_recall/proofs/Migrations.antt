-- A trace that was brought to today's form can be written in it.
use Rattle.std.proofs.Common.{◌≡◌, ◌≤◌, true, length, ap, arith}
use Rattle.mj_store.specs.Questions.{Content}
use Rattle.mj_ask.specs.Fitting.{is_content}
use Rattle.mj_rou.specs.Words.{Each, IsRoutineWorded}
use Rattle.mj_load.specs.Image.{Loaded, routines_of, program_of}
use Rattle.mj_trace.specs.Lines.{IsTrace}
use Rattle.mj_trace.specs.Trace.{Traced, version_of}
use Rattle.mj_replay.specs.declared.migrating.Migrated.{Migrated}
use Rattle.mj_replay.specs.declared.migrating.Migrated.TheVariants as migrated
use Rattle.mj_replay.specs.Traces.{Migrates}
use Rattle.mj_recorded.specs.Traces.{AreMigratedReadBack}
use Rattle.mj_recall.specs.Migrations.{IsNewer}

pub newer : (image : Loaded) (globals : Content) (old : Traced) (m : Migrated) → AreMigratedReadBack → Each IsRoutineWorded (routines_of image)
    → is_content globals ≡ true → IsTrace old → Migrates (program_of image) globals old m → IsNewer m
newer image globals old (migrated.To new) law worded listed was is =
    ((law (length old.events) image globals old new worded listed was (omega (arith)) is).formed, ap version_of is.form)
newer image globals old (migrated.Differs at) law worded listed was is = tt
