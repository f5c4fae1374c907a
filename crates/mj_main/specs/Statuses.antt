-- Why the program stops where workers ran jobs.
use Rattle.std.specs.Prelude.{Option, Some, None}
use Rattle.mj_gather.specs.declared.gathering.Ungathered.{Ungathered}
use Rattle.mj_gather.specs.declared.gathering.Ungathered.TheVariants as ungathered
use Rattle.mj_threads.specs.declared.cuts.Cut.{Cut}
use Rattle.mj_threads.specs.declared.cuts.Cut.TheVariants as cuts
use Rattle.mj_drafts.specs.declared.stop.ProgramError.{ProgramError}
use Rattle.mj_drafts.specs.declared.stop.ProgramError.TheVariants as stops

-- why it stops where jobs that workers ran stopped before their end, if some did
abbrev pub cut_stop : Option Cut → Option ProgramError
cut_stop None = None
cut_stop (Some cuts.Memory) = Some stops.Memory
cut_stop (Some cuts.Full) = Some stops.Full
cut_stop (Some (cuts.Refused job)) = Some (stops.Differs job)

-- why it stops where nothing is gathered of what they did
abbrev pub ungathered_stop : Ungathered → ProgramError
ungathered_stop (ungathered.Differs job place) = stops.Differs job
ungathered_stop (ungathered.Twice job) = stops.Differs job
ungathered_stop ungathered.Memory = stops.Memory
