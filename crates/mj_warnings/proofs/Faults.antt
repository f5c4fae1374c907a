-- What is doubtful of an instruction is the fault that it ends the job by.
use Rattle.std.proofs.Common.{◌≡◌, ◌∙◌, ℕ, suc, ◌+◌, ◌<◌, nat_lt, nat_eq, true, false, List, [], ◌∷◌, length, take, reverse, Bool, Option, Some, None, refl, sym, ap, if◌then◌else◌}
use Rattle.mj_text.specs.declared.fault.Fault.TheVariants as faults
use Rattle.mj_ast.specs.Trees.{target_of}
use Rattle.mj_semantics.specs.Lines.{entry_in}
use Rattle.mj_semantics.specs.Outcome.{Timed, fault}
use Rattle.mj_pcode.specs.declared.instr.Instr.{Instr}
use Rattle.mj_pcode.specs.declared.instr.Instr.TheVariants.{Do, Invoke, Goto, StartJob}
use Rattle.mj_pcode.specs.declared.instr.Unit as unit
use Rattle.mj_pcode.specs.Context.{Context, Call as Suspended}
use Rattle.mj_pcode.specs.Found.{Found, found}
use Rattle.mj_pcode.specs.Machine.{Next, Stack, act, calls, jumps, spread}
use Rattle.mj_warnings.specs.declared.doubts.Doubt.{Doubt}
use Rattle.mj_warnings.specs.declared.doubts.Doubt.TheVariants.{NoRoutine, NoLine, Deeper, Values}
use Rattle.mj_warnings.specs.Doubts.{has_unit, missing, call_doubt, jump_doubt, doubt_of, fault_of, LeadsItself, DoubtsFault}

-- as many values are spread as there are places for them
spread_length : (shape : List Bool) (vs : List (List ℕ)) → length (spread shape vs) ≡ length shape
spread_length [] vs = refl
spread_length (false ∷ shape) vs = ap suc (spread_length shape vs)
spread_length (true ∷ shape) [] = ap suc (spread_length shape [])
spread_length (true ∷ shape) (v ∷ vs) = ap suc (spread_length shape vs)

-- where no line was found
missing_faults : (units : List unit.Unit) (routine : List ℕ) (doubt : Doubt) → Some (missing units routine) ≡ Some doubt → fault faults.NoLine ≡ fault (fault_of doubt)
missing_faults units routine doubt e = by (has_unit units routine) doubt e
  where
    by : (b : Bool) (d : Doubt) → Some (if b then NoLine else NoRoutine) ≡ Some d → fault faults.NoLine ≡ fault (fault_of d)
    by true NoLine h = refl
    by true NoRoutine h = refl
    by true Deeper h = refl
    by true Values h = absurd cc
    by false NoLine h = refl
    by false NoRoutine h = refl
    by false Deeper h = refl
    by false Values h = absurd cc

call_faults : (units : List unit.Unit) (routine : List ℕ) (function : Bool) (to : Option Found) (shape : List Bool) (vs : List (List ℕ)) (below : List Suspended) (next : Next) (doubt : Doubt)
    → call_doubt units routine to (length shape) ≡ Some doubt → calls function to (spread shape vs) below next ≡ fault (fault_of doubt)
call_faults units routine function None shape vs below next doubt e = missing_faults units routine doubt e
call_faults units routine function (Some to) shape vs below next doubt e =
    by (nat_eq to.head.level 1) (nat_lt (length to.head.formals) (length shape)) (nat_lt (length to.head.formals) (length (spread shape vs)))
    (ap (nat_lt (length to.head.formals)) (spread_length shape vs)) doubt e _
  where
    by : (a b b' : Bool) → b' ≡ b → (d : Doubt) → (if a then (if b then Some Values else None) else Some Deeper) ≡ Some d
        → (more : Timed) → (if a then (if b' then fault faults.Params else more) else fault faults.NoLine) ≡ fault (fault_of d)
    by true true true s Values h more = refl
    by true true true s NoLine h more = absurd cc
    by true true true s NoRoutine h more = absurd cc
    by true true true s Deeper h more = absurd cc
    by true true false s d h more = absurd cc
    by true false b' s d h more = absurd cc
    by false b b' s Deeper h more = refl
    by false b b' s NoLine h more = absurd cc
    by false b b' s NoRoutine h more = absurd cc
    by false b b' s Values h more = absurd cc

jump_faults : (units : List unit.Unit) (routine : List ℕ) (to : Option Found) (below : List Suspended) (next : Next) (doubt : Doubt)
    → jump_doubt units routine to ≡ Some doubt → jumps to below next ≡ fault (fault_of doubt)
jump_faults units routine None below next doubt e = missing_faults units routine doubt e
jump_faults units routine (Some to) below next doubt e = absurd cc

-- what leads nowhere is not doubtful
pub doubts_fault : DoubtsFault
doubts_fault units u (Do entry shape) doubt next c pc stack leads e = call_faults units entry.routine false (found units entry) shape _ _ next doubt e
doubts_fault units u (Invoke target shape) doubt next c pc stack leads e =
    call_faults units (entry_in u.name (target_of target)).routine true (found units (entry_in u.name (target_of target))) shape _ _ next doubt e
doubts_fault units u (Goto entry) doubt next c pc stack leads e = jump_faults units entry.routine (found units entry) _ next doubt e
doubts_fault units u (StartJob entry shape wait) doubt next c pc stack leads e = absurd leads
doubts_fault units u _ doubt next c pc stack leads e = absurd cc
