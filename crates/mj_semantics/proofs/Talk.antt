-- What a job asks in a whole run, to state examples with, and short ways to write routines.
use Prim.Native.String.{String}
use Rattle.std.specs.Prelude.{ℕ, zero, suc, List, [], ◌∷◌, ◌++◌, ◌-◌, Option, Some, None, true, false, map, codes, replicate}
use Rattle.mj_ask.specs.declared.ask.Ask.TheVariants as ask_kinds
use Rattle.mj_ask.specs.declared.ask.DeviceAsk.TheVariants as device_asks
use Rattle.mj_ask.specs.declared.entry.Entry.{Entry}
use Rattle.mj_ask.specs.declared.ask.Reply.TheVariants as reply_kinds
use Rattle.mj_ast.specs.declared.function.Special.TheVariants.{Test}
use Rattle.mj_ast.specs.declared.function.NameFunction.TheVariants as names
use Rattle.mj_ask.specs.declared.ask.Ask.{Ask}
use Rattle.mj_ask.specs.declared.ask.Reply.{Reply}
use Rattle.mj_ask.specs.declared.bounds.Bounds.{Bounds}
use Rattle.mj_text.specs.declared.limit.Limit.TheVariants.{V2}
use Rattle.mj_subs.specs.Name.{Name}
use Rattle.mj_ast.specs.declared.routine.FormatMark.{FormatMark}
use Rattle.mj_ast.specs.declared.expr.Scope.TheVariants.{Local, Global}
use Rattle.mj_ast.specs.Syntax.{Expr, Chain, Done, Operand, Literal, Value, Intrinsic, About, Variable, Var, No, More as Another, Targets, One, Plain, Assignment, Output, Shown, Format, Target, Called, Jumped, Command, Set, Write, LineCommand, Line, Routine}
use Rattle.mj_semantics.specs.Outcome.{Outcome, Needs, Ended, More, no_restart, end}
use Rattle.mj_semantics.specs.State.{Frame, Place}
use Rattle.mj_semantics.specs.Points.{AtLine}
use Rattle.mj_semantics.specs.Program.{Program}
use Rattle.mj_semantics.specs.Job.{Start, next, points_of, opening}

abbrev pub asked : Outcome → List Ask
asked (Needs a locals places) = a ∷ []
asked Ended = []
asked More = []

-- the asks of a run, when it is told these replies after those
abbrev talk : (List Reply → Outcome) → List Reply → List Reply → List Ask
talk run told [] = asked (run told)
talk run told (r ∷ replies) = asked (run told) ++ talk run (told ++ r ∷ []) replies

-- the first job, which starts at an entry, without values
abbrev pub first_job : Entry → Start
first_job entry = record { job = 1; entry = entry; values = [] }

-- at the first line of a routine
abbrev pub first_at : List ℕ → Start
first_at routine = first_job (record { label = None; routine = routine })

-- the bounds that jobs of the rows have, where nothing else is said
abbrev pub bounds : Bounds
bounds = record { limit = V2; events = 1000000 }

-- routines, by their names
abbrev pub image_of : List (String × List Line) → List Routine
image_of list = map (λ r. record { name = codes r.0; lines = r.1 }) list

-- the program of these
abbrev pub program_of : List (String × List Line) → Program
program_of list = record { routines = image_of list; bounds = bounds }

-- the asks of a job that starts at the first line of the routine R, within 1,000 turns
abbrev pub asks_within : Bounds → List Line → List Reply → List Ask
asks_within given lines replies = talk (next (record { routines = image_of (("R", lines) ∷ []); bounds = given }) (first_at (codes "R")) 1000) [] replies

abbrev pub asks : List Line → List Reply → List Ask
asks lines replies = asks_within bounds lines replies

abbrev pub cmd : Command → LineCommand
cmd c = record { condition = None; command = c }

abbrev pub cmd_if : Expr → Command → LineCommand
cmd_if e c = record { condition = Some e; command = c }

abbrev pub line : List LineCommand → Line
line steps = record { label = None; formals = []; level = 1; steps = steps }

-- an operand alone
abbrev pub one : Operand → Expr
one x = Chain x Done

abbrev pub lit : List ℕ → Operand
lit t = Literal t

abbrev pub local : List ℕ → Variable
local w = Var Local w No

abbrev pub local_at : List ℕ → Expr → Variable
local_at w e = Var Local w (Another e No)

abbrev pub global : List ℕ → Variable
global w = Var Global w No

-- a global's name without subscripts
abbrev pub name : List ℕ → Name
name w = record { global = true; word = w; subscripts = [] }

abbrev pub global_at : List ℕ → Expr → Variable
global_at w e = Var Global w (Another e No)

-- a global's name
abbrev pub name_at : List ℕ → List (List ℕ) → Name
name_at w ss = record { global = true; word = w; subscripts = ss }

-- one variable as the destination
abbrev pub to : Variable → Targets
to v = One (Plain v)

abbrev pub set : Targets → Expr → Assignment
set t e = record { targets = t; value = e }

-- an operand that is written
abbrev pub show : Operand → Output
show x = Shown (one x)

-- a format of marks alone
abbrev pub marks : List FormatMark → Output
marks list = Format (record { marks = list; column = None })

-- Words to write routines with.

abbrev pub text : String → Expr
text t = one (Literal (codes t))

abbrev pub get : String → Expr
get w = one (Value (local (codes w)))

-- `$DATA` of a local
abbrev pub data_of : Variable → Expr
data_of v = one (About names.Data v No)

-- `$TEST`
abbrev pub test : Expr
test = one (Intrinsic Test)

abbrev pub write : List Expr → LineCommand
write es = cmd (Write (map Shown es))

abbrev pub let_be : String → Expr → Assignment
let_be w e = record { targets = to (local (codes w)); value = e }

abbrev pub assign : List Assignment → LineCommand
assign list = cmd (Set list)

-- a line with a label
abbrev pub at : String → List LineCommand → Line
at l steps = record { label = Some (codes l); formals = []; level = 1; steps = steps }

-- a line with a label and formals
abbrev pub with : String → List (List ℕ) → List LineCommand → Line
with l formals steps = record { label = Some (codes l); formals = formals; level = 1; steps = steps }

-- a line of a level
abbrev pub deep : ℕ → List LineCommand → Line
deep level steps = record { label = None; formals = []; level = level; steps = steps }

abbrev pub deep_at : ℕ → String → List LineCommand → Line
deep_at level l steps = record { label = Some (codes l); formals = []; level = level; steps = steps }

-- a label of the same routine
abbrev pub here : String → Target
here l = record { label = Some (codes l); routine = None }

-- a label of another routine
abbrev pub there : String → String → Target
there l r = record { label = Some (codes l); routine = Some (codes r) }

-- the first line of a routine
abbrev pub top : String → Target
top r = record { label = None; routine = Some (codes r) }

abbrev pub do_it : Target → List (Option Expr) → Called
do_it t es = record { target = t; actuals = es; condition = None }

abbrev pub do_if : Expr → Target → List (Option Expr) → Called
do_if e t es = record { target = t; actuals = es; condition = Some e }

abbrev pub go : Target → Jumped
go t = record { target = t; condition = None }

abbrev pub go_if : Expr → Target → Jumped
go_if e t = record { target = t; condition = Some e }

-- Whole runs of routines that ask for no globals.

-- the bytes that an ask writes
abbrev written : Ask → List ℕ
written (ask_kinds.Device device (device_asks.Write bytes)) = bytes
written _ = []

-- what a job writes to its device, where it is over after at most so many asks, to each of which the reply is that it is done
abbrev heard : (List Reply → Outcome) → ℕ → ℕ → List ℕ → Option (List ℕ)
heard run zero told bytes = None
heard run (suc left) told bytes = elim (run (replicate told reply_kinds.Done)) [
  | Needs a locals places ↦ heard run left (suc told) (bytes ++ written a)
  | Ended ↦ Some bytes
  | More ↦ None
]

-- what a job writes that starts at an entry of some routines, where it is over within 40 asks and so many turns; none where it isn't
abbrev pub says_within : ℕ → List (String × List Line) → Entry → Option (List ℕ)
says_within turns routines entry = heard (next (program_of routines) (first_job entry) turns) 40 0 []

-- what a job writes that starts at the first line of R
abbrev pub says_with : List (String × List Line) → Option (List ℕ)
says_with routines = says_within 400 routines (record { label = None; routine = codes "R" })

-- the same, where R is the only routine
abbrev pub says : List Line → Option (List ℕ)
says lines = says_with (("R", lines) ∷ [])

-- A job that has so many frames: it stands at the first line of R, and the first asks of the line's commands follow.

abbrev frame : Frame
frame = record { place = record { routine = codes "R"; line = 9 }; level = 1; function = false; test = None; height = 0 }

-- what a job writes first that comes with so many frames to the first line of R
abbrev pub says_deep : ℕ → List Line → List ℕ
says_deep frames lines =
    elim (points_of (image_of (("R", lines) ∷ [])) 40 (AtLine (record { routine = codes "R"; line = 1 }) (λ v. end None)) 40 no_restart
    (record (opening bounds 1) { frames = replicate frames frame }) []) [
      | Needs a locals places ↦ written a
      | Ended ↦ []
      | More ↦ []
    ]

-- how a job stops that starts at the first line of R, at the ask after so many to which the reply is that it is done
abbrev pub stands : List Line → ℕ → Outcome
stands lines told = next (program_of (("R", lines) ∷ [])) (first_at (codes "R")) 400 (replicate told reply_kinds.Done)

-- how a job stops that starts at the first line of R, after one turn less than so many, and after so many, where the reply to its first
-- ask is that it is done
abbrev pub turns : List Line → ℕ → Outcome × Outcome
turns lines n =
    let run : ℕ → Outcome = (λ k. next (program_of (("R", lines) ∷ [])) (first_at (codes "R")) k (reply_kinds.Done ∷ [])) in
    (run (n - 1), run n)

-- line k of R
abbrev pub spot : ℕ → Place
spot k = record { routine = codes "R"; line = k }
