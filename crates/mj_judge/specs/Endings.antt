-- How stepping ended.
use Rattle.std.specs.Prelude.{Bool, true, false}
use Rattle.mj_steps.specs.declared.step.Refusal.TheVariants as refusals
use Rattle.mj_steps.specs.declared.drive.Ending.{Ending}
use Rattle.mj_steps.specs.declared.drive.Ending.TheVariants as endings

-- stepping ended since memory was refused
abbrev pub is_for_memory : Ending → Bool
is_for_memory (endings.Refused refusals.Memory step) = true
is_for_memory _ = false
