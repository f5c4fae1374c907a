-- What an image is.
use Rattle.std.specs.Prelude.{◌≡◌, ℕ, suc, ◌≤◌, ◌<◌, ◌^◌, List, [], ◌∷◌, ◌++◌, Option, Some, None, false, length, map, All, if◌then◌else◌}
use Rattle.std.specs.List.{list_any}
use Rattle.std.specs.Str.{bytes_eq}
use Rattle.mj_ask.specs.declared.bounds.Bounds.{Bounds}
use Rattle.mj_ask.specs.declared.entry.Entry.{Entry}
use Rattle.mj_ast.specs.declared.routine.Routine.{Routine}
use Rattle.mj_ast.specs.Expressions.{name_limit}
use Rattle.mj_ast.specs.Trees.{routine_of}
use Rattle.mj_ast.specs.Syntax as syntax
use Rattle.mj_semantics.specs.Outcome.{end}
use Rattle.mj_semantics.specs.Points.{Called}
use Rattle.mj_semantics.specs.Program.{Program}
use Rattle.mj_semantics.specs.Job.{points_of}
use Rattle.mj_pcode.specs.declared.instr.Unit as unit
use Rattle.mj_pcode.specs.Found.{found}
use Rattle.mj_pcode.specs.Machine.{calls}
use Rattle.mj_pcode.specs.Checked.{IsChecked}
use Rattle.mj_asm.specs.Correct.{next_of, IsUnitOf}

-- routines, with a unit for each, and what jobs that run them are bound to
pub record Loaded : Type 0 where
  pub routines : List Routine
  pub units : List unit.Unit
  pub bounds : Bounds

-- the routines of an image, without where they lie in memory
abbrev pub routines_of : Loaded → List syntax.Routine
routines_of image = map routine_of image.routines

-- what jobs of an image run
abbrev pub program_of : Loaded → Program
program_of image = record { routines = routines_of image; bounds = image.bounds }

-- how long a routine's name is, and how many lines it has, at most
pub record IsWithinLimits (routine : Routine) : Type 0 where
  pub short : length routine.name ≤ name_limit
  pub few : length routine.lines.items < 2 ^ 32

-- the first of these names that is one of those before it; `earlier` come before all
abbrev pub repeated : List (List ℕ) → List (List ℕ) → Option (List ℕ)
repeated earlier [] = None
repeated earlier (name ∷ names) = if list_any (λ e. bytes_eq e name) earlier then Some name else repeated (earlier ++ name ∷ []) names

abbrev pub names_of : List Routine → List (List ℕ)
names_of routines = map (λ r. r.name) routines

-- each unit is the code of the routine at its place
abbrev pub AreUnits : List Routine → List unit.Unit → Type 0
AreUnits [] [] = Unit {0}
AreUnits [] (u ∷ units) = ⊥
AreUnits (r ∷ routines) [] = ⊥
AreUnits (r ∷ routines) (u ∷ units) = IsUnitOf (routine_of r) u × AreUnits routines units

-- a unit whose name is short, and whose lines can be counted
pub record IsSmall (u : unit.Unit) : Type 0 where
  pub short : length u.name ≤ name_limit
  pub few : length u.heads.items < 2 ^ 32

-- From an entry on, whatever values it is given, and for each number of turns, the units do what the routines do, as soon as points
-- lead to points as deep as there are turns.
abbrev pub DoesEntries : Loaded → Type 0
DoesEntries image =
    (entry : Entry) (vs : List (Option (List ℕ))) (depth n : ℕ) → n ≤ depth
    → calls false (found image.units entry) vs [] (next_of image.units) n
    ≡ points_of (routines_of image) (suc depth) (Called false entry vs (λ v. end None)) n

-- no two routines have one name, each has its code, the units do what the routines do, and none lacks an operand or a FOR or leads out of
-- its code. A run may have an event: without one a job would fail before its principal session begins
pub record IsImage (image : Loaded) : Type 0 where
  pub within : All IsWithinLimits image.routines
  pub apart : repeated [] (names_of image.routines) ≡ None
  pub units : AreUnits image.routines image.units
  pub small : All IsSmall image.units
  pub checked : All IsChecked image.units
  pub does : DoesEntries image
  pub some : 0 < image.bounds.events
