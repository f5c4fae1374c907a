-- The names in routines that were read are words.
use Rattle.std.proofs.Common.{All, zero, suc, List, [], ◌∷◌, map, arith}
use Rattle.mj_ast.specs.declared.routine.Routine.{Routine}
use Rattle.mj_ast.specs.Trees.{routine_of}
use Rattle.mj_rou.specs.Laws.{HasWords}
use Rattle.mj_rou.specs.Words.{Each, IsRoutineWorded}
use Rattle.mj_begin.specs.Words.{WasRead}

pub are_worded : HasWords → (routines : List Routine) → All WasRead routines → Each IsRoutineWorded (map routine_of routines)
are_worded law [] all = tt
are_worded law (r ∷ routines) all =
    let first : WasRead r = all 0 r (omega arith) in
    (law r.name first.0 (routine_of r) first.1 first.2, are_worded law routines (λ k d few. all (suc k) d (omega (arith, few))))
