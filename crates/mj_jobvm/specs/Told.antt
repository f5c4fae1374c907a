-- What a call of `advance` tells.
use Rattle.std.specs.Prelude.{◌≡◌, ℕ, ◌+◌, ◌^◌, ◌≤◌, min, List, Option, Some, None, IsSome, Result, Ok, Err}
use Rattle.mj_ask.specs.declared.ask.Ask.{Ask}
use Rattle.mj_semantics.specs.State.{places}
use Rattle.mj_semantics.specs.Outcome as outcomes
use Rattle.mj_semantics.specs.Program.{Program}
use Rattle.mj_semantics.specs.Job.{Start, next}
use Rattle.mj_jobvm.specs.declared.job.Turn.{Turn}
use Rattle.mj_jobvm.specs.declared.job.Turn.TheVariants.{Asks, Ran, Ended}
use Rattle.mj_jobvm.specs.declared.job.Went.{Went}
use Rattle.mj_jobvm.specs.declared.job.Went.TheVariants as wents
use Rattle.mj_machine.specs.Standing as turns
use Rattle.mj_jobvm.specs.Run.{Run, replies_of, GoesOn, HasEnded}

-- it asks only what the run over its log needs, and its locals and its frames are those that stand beside it; it has ended
-- only where the run has; and only where the run is still going after the turns before the last reply was taken, and those
-- that it counted since, it ran as far as it was let
abbrev pub AdvanceTells : Program → Start → Turn → Run → Type 0
AdvanceTells program start Asks job =
    (a : Ask) × (job.pending ≡ Some a) × ((n : ℕ) × (next program start n (replies_of job.log) ≡ outcomes.Needs a job.at.state.locals (places job.at.state)))
AdvanceTells program start Ran job = GoesOn program start job.log job.spent
AdvanceTells program start Ended job = HasEnded program start job.log

-- after a call a job waits for a reply where it asks, and nowhere else
abbrev pub IsWaitingAt : Turn → Option Ask → Type 0
IsWaitingAt Asks pending = IsSome pending
IsWaitingAt Ran pending = pending ≡ None
IsWaitingAt Ended pending = pending ≡ None

-- how many turns a call makes that is let make so many: all of them where it ran as far as it was let, whatever is counted, and
-- no more in any case
abbrev pub AreMade : {E : Type 0} → Result Turn E → ℕ → ℕ → Type 0
AreMade (Ok Asks) fuel made = made ≤ fuel
AreMade (Ok Ran) fuel made = made ≡ fuel
AreMade (Ok Ended) fuel made = made ≤ fuel
AreMade (Err e) fuel made = made ≤ fuel

-- the turns that are counted since the last reply: its fuel, where it ran as far as it was let, up to 2 ^ 63
abbrev pub spent_after : {E : Type 0} → Result Turn E → ℕ → ℕ → ℕ
spent_after (Ok Asks) fuel spent = spent
spent_after (Ok Ran) fuel spent = min (spent + fuel) (2 ^ 63)
spent_after (Ok Ended) fuel spent = spent
spent_after (Err e) fuel spent = spent

-- how a turn went, by the name that a run gives it
abbrev pub told_of : Went → turns.TurnKind
told_of wents.On = turns.Over
told_of (wents.Asks a) = turns.Asks a.value
told_of wents.Over = turns.Ends
