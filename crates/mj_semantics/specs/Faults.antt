-- What is written of a fault.
use Rattle.std.specs.Prelude.{ℕ, List, ◌++◌, Option, Some, None, codes, decimal}
use Rattle.mj_text.specs.declared.fault.Fault.{Fault}
use Rattle.mj_text.specs.Fault.{name_of}
use Rattle.mj_semantics.specs.State.{Place}

-- a line of a routine, as `R:3`, or `-` where the job stands in none
abbrev pub place_text : Option Place → List ℕ
place_text None = codes "-"
place_text (Some p) = p.routine ++ codes ":" ++ decimal p.line

-- the line that tells of a fault, without its end
abbrev pub fault_line : Fault → Option Place → List ℕ
fault_line f p = name_of f ++ codes " " ++ place_text p
