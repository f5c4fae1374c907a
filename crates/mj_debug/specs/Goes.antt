-- Jobs that go on in turn, up to a breakpoint.
use Rattle.std.specs.Prelude.{◌≡◌, ℕ, suc, ◌<◌, List, [], ◌∷◌, length, Bool, true, false, Option, Some, None, option_map, Result, Ok, Err, ◌⊎◌}
use Rattle.mj_ask.specs.declared.ask.Ask.{Ask}
use Rattle.mj_semantics.specs.Program.{Program}
use Rattle.mj_semantics.specs.State.{Locals, Place}
use Rattle.mj_semantics.specs.Outcome as outcomes
use Rattle.mj_semantics.specs.Job.{next}
use Rattle.mj_load.specs.Image.{program_of}
use Rattle.mj_jobs.specs.Rows.{Row, row_at}
use Rattle.mj_jobvm.specs.declared.job.Turn.{Turn}
use Rattle.mj_jobvm.specs.declared.job.Turn.TheVariants as turns
use Rattle.mj_jobvm.specs.Run.{replies_of}
use Rattle.mj_sys.specs.Shared.{Shared}
use Rattle.mj_sys.specs.History.{state_of, log_of}
use Rattle.mj_core.specs.declared.seen.Seen.{Seen}
use Rattle.mj_core.specs.declared.seen.Seen.TheVariants as seen
use Rattle.mj_steps.specs.declared.step.Refusal.{Refusal}
use Rattle.mj_steps.specs.declared.step.Way.TheVariants as ways
use Rattle.mj_core.specs.Runs.{start_in}
use Rattle.mj_core.specs.Shown.{Shown}
use Rattle.mj_core.specs.Gives.{CoreStepGives, GivesReady}
use Rattle.mj_replica.specs.declared.replica.Unshown.{Unshown}
use Rattle.mj_replica.specs.declared.replica.Unshown.TheVariants as unshown
use Rattle.mj_replica.specs.InTurn.{AreOver, IsTurnOf}
use Rattle.mj_replica.specs.Shows.{HasStood}
use Rattle.mj_debug.specs.declared.debugger.Gone.{Gone}
use Rattle.mj_debug.specs.declared.debugger.Gone.TheVariants as gones
use Rattle.mj_debug.specs.Breaks.{stops}
use Rattle.mj_debug.specs.Walks.{Walk}

-- with its frames at these lines, the innermost first, the job comes to its next ask
abbrev pub ComesToAsk : Program → Shared → Shown → ℕ → List Place → Type 0
ComesToAsk program opening old job places =
    (row : Row) × (row_at (state_of opening old.history).rows job ≡ Some row)
    × ((n : ℕ) × (a : Ask) × (locals : Locals) × (next program (start_in job row.start) n (replies_of (log_of job old.history)) ≡ outcomes.Needs a locals places))

-- a routine's name and the number of a line, if there is one
abbrev pub line_in : Option (List ℕ × ℕ) → Option Place
line_in line = option_map (λ l. record { routine = l.0; line = l.1 }) line

-- the line of the innermost of these frames, if there is one
abbrev pub innermost : List Place → Option Place
innermost [] = None
innermost (place ∷ places) = Some place

-- the job comes to its next ask, and whether that is one to stop at
abbrev pub IsStop : Shared → Walk → ℕ → List Place → Bool → Type 0
IsStop opening old job places stop =
    (before : List Place) × (locals : Locals)
    × HasStood (program_of old.core.image) opening old.core.history job locals before
    × ComesToAsk (program_of old.core.image) opening old.core job places
    × (stops old.core.image old.marks (innermost before) (innermost places) ≡ stop)

-- what a step comes to in which the job doesn't come to its next ask
abbrev pub IsUnasked : Result Turn Refusal → Result Seen Refusal → Type 0
IsUnasked (Ok turns.Asks) answer = ⊥
IsUnasked (Ok turns.Ran) answer = answer ≡ Ok seen.Ran
IsUnasked (Ok turns.Ended) answer = answer ≡ Ok seen.Ended
IsUnasked (Err why) answer = answer ≡ Err why

-- What the job whose turn it is does: it makes a step; but the first one of a `go` apart, only where its next ask is none to stop at, and where it
-- doesn't come to one, that it was let go on is its step.
abbrev pub Passes : Shared → Walk → Bool → ℕ → Result Seen Refusal → Shown → Type 0
Passes opening old true job answer new = CoreStepGives opening old.core (record { job = job; way = ways.Go }) answer new
Passes opening old false job answer new =
    ((places : List Place) × IsStop opening old job places false
    × ((ready : Shown) × GivesReady opening old.core job (Ok turns.Asks) ready × CoreStepGives opening ready (record { job = job; way = ways.Go }) answer new))
    ⊎ ((turn : Result Turn Refusal) × IsUnasked turn answer × GivesReady opening old.core job turn new)

-- What comes of the next step of a `go`: that the place isn't the record's end; that all jobs have ended; that the job whose turn it is stops at a
-- line; or what its step gives, behind which it is the next job's turn. `first` says that it is the first step of that `go`.
abbrev pub GoGives : Shared → Walk → Bool → Gone → Walk → Type 0
GoGives opening old first gones.NotAtEnd new = (old.place < length old.core.history) × (new ≡ old)
GoGives opening old first gones.Over new =
    (old.place ≡ length old.core.history) × AreOver (state_of opening old.core.history).rows 0 × (new ≡ record old { ready = true })
GoGives opening old first (gones.At job routine line) new =
    (old.place ≡ length old.core.history) × (first ≡ false) × IsTurnOf (state_of opening old.core.history).rows old.turn job
    × ((outer : List Place) × IsStop opening old job (record { routine = routine; line = line } ∷ outer) true)
    × GivesReady opening old.core job (Ok turns.Asks) new.core
    × (new ≡ record old { core = new.core; ready = true; turn = job })
GoGives opening old first (gones.Step job answer) new =
    (old.place ≡ length old.core.history) × IsTurnOf (state_of opening old.core.history).rows old.turn job
    × Passes opening old first job answer new.core
    × (new ≡ record old { core = new.core; place = length new.core.history; ready = new.ready; turn = suc job })

-- a job was stepped by Go at the record's end, and it is the next job's turn
abbrev pub IsPassed : Shared → Walk → ℕ → Gone → Walk → Type 0
IsPassed opening old job gone new =
    (answer : Result Seen Refusal) × (gone ≡ gones.Step job answer) × CoreStepGives opening old.core (record { job = job; way = ways.Go }) answer new.core
    × (new ≡ record old { core = new.core; place = length new.core.history; ready = new.ready; turn = suc job })

-- What is left where no step of a `go` is made, at the record's end: what stands there isn't shown, for want of memory, or as a job went on for too long,
-- so that nothing is at hand; or, for want of memory, it is at hand, and the job whose turn it is came to its next ask, which the first step of a `go`
-- doesn't wait for.
abbrev pub IsLeftUnmade : Shared → Walk → Bool → Unshown → Walk → Type 0
IsLeftUnmade opening old first unshown.Memory new =
    (old.place ≡ length old.core.history)
    × ((new ≡ record old { ready = false })
    ⊎ ((first ≡ false)
    × ((job : ℕ) × IsTurnOf (state_of opening old.core.history).rows old.turn job × GivesReady opening old.core job (Ok turns.Asks) new.core
    × (new ≡ record old { core = new.core; ready = true }))))
IsLeftUnmade opening old first unshown.Long new = (old.place ≡ length old.core.history) × (new ≡ record old { ready = false })
