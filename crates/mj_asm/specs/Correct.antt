-- What it says that a unit is the code of a routine.
use Rattle.std.specs.Prelude.{◌≡◌, ℕ, ◌+◌, ◌≤◌, ◌<◌, ◌^◌, List, [], ◌∷◌, Option, Some, None, length, map, slice_get, ⊤}
use Rattle.mj_ask.specs.declared.entry.Entry.{Entry}
use Rattle.mj_ast.specs.Syntax.{Line, Routine}
use Rattle.mj_semantics.specs.Outcome.{Timed, turn}
use Rattle.mj_semantics.specs.Lines.{Here, lines_of, labelled, entered, levels_of}
use Rattle.mj_semantics.specs.Points.{Leave, AtLine}
use Rattle.mj_semantics.specs.Job.{points_of}
use Rattle.mj_pcode.specs.declared.instr.LineStart.{LineStart}
use Rattle.mj_pcode.specs.declared.instr.Instr.TheVariants as instr
use Rattle.mj_pcode.specs.declared.instr.Unit as unit
use Rattle.mj_pcode.specs.Labels.{Labels, with_label}
use Rattle.mj_pcode.specs.Found.{Found, found, line_in, start_of, levels_in}
use Rattle.mj_pcode.specs.Context.{Call, Context, at_unit}
use Rattle.mj_pcode.specs.Machine.{Next, returns, exec}

-- line k of a routine
abbrev pub line_of : Routine → ℕ → Here
line_of routine k = record { routine = routine.name; line = k }

-- these labels, and those of lines, of which the first has number k: where lines have one label, the first of them counts
abbrev pub with_labels : Labels → ℕ → List Line → Labels
with_labels labels k [] = labels
with_labels labels k (line ∷ lines) = with_labels (elim line.label [ None ↦ labels | Some l ↦ with_label labels l k ]) (k + 1) lines

-- two rests are the same for at most b turns
pub record Agree (b : ℕ) (f g : Timed) : Type 0 where
  pub by : (n : ℕ) → n ≤ b → f n ≡ g n

-- the machine in a context from an instruction on, without operands
abbrev pub from_there : List unit.Unit → Context → ℕ → Timed
from_there units c pc n = exec units n c pc [] n

-- what comes next, for the machine
abbrev pub next_of : List unit.Unit → Next
next_of units c pc stack n = exec units n c pc stack n

-- From line k of the unit at place j on, or from its end, the machine does what the routines do from that line on, for at most b
-- turns: whatever the frames below are to do that the frame's QUIT leads to, with whatever value, if it is the same for as many turns,
-- and as soon as points lead to points as deep as there are turns. It is so whatever a restart is to do.
abbrev pub DoesLine : List Routine → List unit.Unit → ℕ → ℕ → unit.Unit → ℕ → Type 0
DoesLine image units b j u k =
    (calls : List Call) (leave : Leave) → ((v : List ℕ) → Agree b (returns (next_of units) calls v) (leave v)) → (depth : ℕ) → b ≤ depth
    → Agree b (from_there units (at_unit j calls) (start_of u k)) (turn (points_of image depth (AtLine (record { routine = u.name; line = k }) leave)))

-- and so does each unit of some, from each of its lines on
abbrev pub DoLines : List Routine → List unit.Unit → ℕ → Type 0
DoLines image units b =
    (j : ℕ) (u : unit.Unit) → slice_get units j ≡ Some u → (k : ℕ) → 1 ≤ k → k ≤ length u.heads.items + 1 → DoesLine image units b j u k

-- the instruction that enters a line stands there
pub record BeginsLine (u : unit.Unit) (pc : ℕ) : Type 0 where
  pub line : LineStart
  pub is : slice_get u.instrs.items pc ≡ Some (instr.Line line)

-- a line that is found by its entry is the line that was found among units, and begins with its instruction
abbrev pub IsFound : List Routine → List unit.Unit → Option (Here × Line) → Option Found → Type 0
IsFound image units None None = ⊤
IsFound image units None (Some f) = ⊥
IsFound image units (Some to) None = ⊥
IsFound image units (Some to) (Some f) =
    (slice_get units f.at ≡ Some f.unit) × (to.0.routine ≡ f.unit.name) × (to.0.line ≡ f.line) × (1 ≤ f.line) × (f.line ≤ length f.unit.heads.items + 1)
    × (f.head.start ≡ start_of f.unit f.line) × (to.1.level ≡ f.head.level) × (to.1.formals ≡ f.head.formals)
    × (levels_of image f.unit.name ≡ levels_in f.unit) × BeginsLine f.unit f.head.start

-- entries lead to the same lines among routines as among units
abbrev pub LeadAlike : List Routine → List unit.Unit → Type 0
LeadAlike image units = (entry : Entry) → IsFound image units (entered image entry) (found units entry)

-- The unit is the routine's code: it has its name, and the levels, formals and labels of its lines, so that a label leads to the
-- first line with it. And it does what the routine does: in each list of routines where the routine's name leads to its
-- lines, among units to which entries lead alike, where it stands at some place, from each line on, as long as those units do for
-- fewer turns what the routines do.
pub record IsUnitOf (routine : Routine) (u : unit.Unit) : Type 0 where
  pub name : u.name ≡ routine.name
  pub few : length routine.lines < 2 ^ 32
  pub levels : levels_in u ≡ map (λ line. line.level) routine.lines
  pub formals : map (λ h. h.formals) u.heads.items ≡ map (λ line. line.formals) routine.lines
  pub labels : u.labels ≡ with_labels [] 1 routine.lines
  pub finds : (l : List ℕ) → line_in u (Some l) ≡ labelled l 1 routine.lines
  pub does :
      (image : List Routine) (units : List unit.Unit) → lines_of image routine.name ≡ routine.lines → LeadAlike image units
      → (j : ℕ) → slice_get units j ≡ Some u → (b : ℕ) → ((m : ℕ) → m < b → DoLines image units m)
      → (k : ℕ) → 1 ≤ k → k ≤ length routine.lines + 1 → DoesLine image units b j u k
