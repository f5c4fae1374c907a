-- That a run which is over has asked its halt last.
use Rattle.std.specs.Prelude.{◌≡◌, ℕ, List, [], ◌∷◌, ◌++◌, Option}
use Rattle.mj_text.specs.declared.fault.Fault.{Fault}
use Rattle.mj_ask.specs.declared.ask.Ask.TheVariants as asks
use Rattle.mj_ask.specs.declared.ask.SharedAsk.TheVariants as shared_asks
use Rattle.mj_ask.specs.declared.ask.Reply.{Reply}
use Rattle.mj_semantics.specs.State.{Locals, Place}
use Rattle.mj_semantics.specs.Outcome.{Outcome, Needs, Ended}
use Rattle.mj_semantics.specs.Program.{Program}
use Rattle.mj_semantics.specs.Job.{Start, next}
use Rattle.mj_jobvm.specs.Run.{Log, HasEnded, IsTrace}

-- of some replies one is that to a halt, which the run needs after those before it; and with it the run is over, whatever is told behind it
pub record Halted (run : List Reply → Outcome) (replies : List Reply) : Type 0 where
  pub told : List Reply
  pub last : Reply
  pub more : List Reply
  pub fault : Option Fault
  pub locals : Locals
  pub at : List Place
  pub are : replies ≡ told ++ last ∷ more
  pub asked : run told ≡ Needs (asks.Shared (shared_asks.Halt fault)) locals at
  pub over : (behind : List Reply) → run (told ++ last ∷ behind) ≡ Ended

-- a run is over only so: no restart and nothing else ends it
abbrev pub EndsByHalt : Type 0
EndsByHalt =
    (program : Program) (start : Start) (n : ℕ) (replies : List Reply) → next program start n replies ≡ Ended
    → Halted (λ told. next program start n told) replies

-- the last entry of a log is the halt
abbrev pub EndsInHalt : Log → Type 0
EndsInHalt log = (earlier : Log) × (fault : Option Fault) × (r : Reply) × (log ≡ earlier ++ (asks.Shared (shared_asks.Halt fault), r) ∷ [])

-- a log with which the run is over ends in its halt
abbrev pub IsHaltLast : Type 0
IsHaltLast =
    (program : Program) (start : Start) (log : Log) → IsTrace program start log → HasEnded program start log → EndsInHalt log
