-- Rows: which asks a log may hold behind the others, and how far a job goes on that starts at a line with formals.
use Rattle.std.proofs.Common.{◌≡◌, ℕ, List, [], ◌∷◌, None, Some, true, inl, inr, refl, arith, codes}
use Rattle.mj_text.specs.declared.fault.Fault.TheVariants.{Steps}
use Rattle.mj_text.specs.declared.limit.Limit.TheVariants.{V2}
use Rattle.mj_subs.specs.Name.{Name}
use Rattle.mj_store.specs.declared.access.Access.TheVariants.{Value}
use Rattle.mj_ask.specs.declared.ask.Ask.TheVariants as asks
use Rattle.mj_ask.specs.declared.ask.SharedAsk.TheVariants as shared_asks
use Rattle.mj_ask.specs.declared.ask.DeviceAsk.TheVariants as device_asks
use Rattle.mj_ask.specs.declared.ask.Reply.TheVariants.{Done}
use Rattle.mj_ask.specs.declared.entry.Entry.{Entry}
use Rattle.mj_ast.specs.Syntax.{Routine, Quit}
use Rattle.mj_semantics.specs.State.{State, principal}
use Rattle.mj_semantics.specs.Outcome.{Needs, More, fault_bytes}
use Rattle.mj_semantics.specs.Program.{Program}
use Rattle.mj_semantics.specs.Job.{Start, next}
use Rattle.mj_jobvm.specs.Places.{spot_in}
use Rattle.mj_jobvm.specs.Limit.{IsAllowed}
use Rattle.mj_jobvm.specs.Run.{Log, replies_of}

abbrev name : Name
name = record { global = true; word = codes "A"; subscripts = [] }

-- how many events a run may have here
abbrev events : ℕ
events = 1000000

-- the one that makes 1,000,000
last_access : IsAllowed events 999999 (asks.Shared (shared_asks.Access (Value name)))
last_access = inl (omega arith)

-- one more isn't
one_more : IsAllowed events 1000000 (asks.Shared (shared_asks.Access (Value name))) → ⊥
one_more (inl lt) = absurd (omega (arith, lt))
one_more (inr e) = e

-- but the ending is: the fault's line, the end of the session, and the job's
fault_line : (s : State) → IsAllowed events 1000000 (asks.Device principal (device_asks.Write (fault_bytes Steps s)))
fault_line s = inr (omega arith, refl, (Steps, s, refl))

-- 17 sessions at most
session_end : IsAllowed events 1000017 (asks.Device principal device_asks.End)
session_end = inr (omega arith)

job_end : IsAllowed events 1000018 (asks.Shared (shared_asks.Halt (Some Steps)))
job_end = inr (omega arith)

-- and nothing after it
nothing_after : IsAllowed events 1000019 (asks.Shared (shared_asks.Halt None)) → ⊥
nothing_after (inl lt) = absurd (omega (arith, lt))
nothing_after (inr le) = absurd (omega (arith, le))

-- A(X,Y) QUIT, from this line on: the begin of its session, two formals, the line and the QUIT; then the end of its session is asked for
abbrev routine : Routine
routine = record {
  name = codes "R";
  lines = record { label = Some (codes "A"); formals = codes "X" ∷ codes "Y" ∷ []; level = 1; steps = record { condition = None; command = Quit None } ∷ [] } ∷ [];
}

abbrev program : Program
program = record { routines = routine ∷ []; bounds = record { limit = V2; events = events } }

abbrev entry : Entry
entry = record { label = Some (codes "A"); routine = codes "R" }

abbrev start : Start
start = record { job = 1; entry = entry; values = [] }

abbrev log : Log
log = (asks.Device principal device_asks.Begin, Done) ∷ []

goes_on_for_five : next program start 5 (replies_of log) ≡ More
goes_on_for_five = refl

asks_in_the_sixth : next program start 6 (replies_of log) ≡ Needs (asks.Device principal device_asks.End) [] (record { routine = codes "R"; line = 1 } ∷ [])
asks_in_the_sixth = refl

-- a place is that of the first name, or there is none
fourth_line : spot_in (codes "R" ∷ codes "%TOOL" ∷ []) (1, 4) ≡ Some (record { routine = codes "R"; line = 4 })
fourth_line = refl

other_routine : spot_in (codes "R" ∷ codes "%TOOL" ∷ []) (2, 4) ≡ Some (record { routine = codes "%TOOL"; line = 4 })
other_routine = refl

nowhere : spot_in (codes "R" ∷ codes "%TOOL" ∷ []) (0, 4) ≡ None
nowhere = refl
