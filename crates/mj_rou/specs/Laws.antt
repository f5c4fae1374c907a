-- What holds of every file: it is a routine's or it is refused, not both, and it is refused for one reason. The names in a routine
-- are words.
use Rattle.std.specs.Prelude.{ℕ, ◌≡◌, List}
use Rattle.mj_ast.specs.Syntax.{Routine}
use Rattle.mj_ast.specs.Routines.{IsName}
use Rattle.mj_ast.specs.Routines as grammar
use Rattle.mj_rou.specs.Read.{IsRoutineRead, IsRoutineRefused}
use Rattle.mj_rou.specs.Words.{IsRoutineWorded}
use Rattle.mj_rou.specs.declared.error.LoadError.{LoadError}
use Rattle.mj_rou.specs.declared.error.LoadError.TheVariants as load

-- what a refusal tells: that there is no name, or of which routine what is refused in which line
pub data RefusalTold : Type 0 where
  NoName : RefusalTold
  At : (name : List ℕ) (line : ℕ) (reason : grammar.LineRefusal) → RefusalTold
  Nothing : RefusalTold

abbrev pub refusal_told : LoadError → RefusalTold
refusal_told load.Name = NoName
refusal_told (load.Stuck routine line column) = At routine.bytes line (grammar.StuckAt column)
refusal_told (load.LeftOut routine line column construct) = At routine.bytes line (grammar.LeftOutAt column construct)
refusal_told (load.Twice routine line) = At routine.bytes line grammar.Twice
refusal_told (load.Long routine line) = At routine.bytes line grammar.Long
refusal_told (load.Deep routine line column) = At routine.bytes line (grammar.DeepAt column)
refusal_told load.Memory = Nothing

-- of what is read as a routine nothing is refused: no line is stuck, too deep, too long, or has a label again
abbrev pub IsReadOrRefused : Type 0
IsReadOrRefused =
    (name bytes : List ℕ) (r : Routine) (e : LoadError) → IsName name → IsRoutineRead name bytes r → IsRoutineRefused name bytes e
    → e ≡ load.Memory

-- two refusals of a file tell the same, unless memory was wanting
abbrev pub HasOneReason : Type 0
HasOneReason =
    (name bytes : List ℕ) (e f : LoadError) → (e ≡ load.Memory → ⊥) → (f ≡ load.Memory → ⊥)
    → IsRoutineRefused name bytes e → IsRoutineRefused name bytes f → refusal_told e ≡ refusal_told f

-- where names stand in a routine that is read, there are words
abbrev pub HasWords : Type 0
HasWords = (name bytes : List ℕ) (r : Routine) → IsName name → IsRoutineRead name bytes r → IsRoutineWorded r
