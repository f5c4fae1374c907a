-- A view as its parts.
use Rattle.std.specs.Prelude.{map}
use Rattle.mj_frames.specs.Frames.{frames_of}
use Rattle.mj_views.specs.Views.{JobView, Viewed}
use Rattle.mj_views.specs.declared.view.Standing.{Standing}
use Rattle.mj_views.specs.declared.view.View.TheInside.{Inside}

abbrev pub stand_of : Standing → JobView
stand_of job = record { frames = frames_of job.frames.items; locals = job.locals.now }

abbrev pub viewed : Inside → Viewed
viewed v = record { globals = v.globals.content; locks = v.locks.holds; jobs = map stand_of v.jobs.items }
