-- Routines beside their units.
use Rattle.std.proofs.Common.{◌≡◌, ℕ, ◌+◌, ◌<◌, List, [], ◌∷◌, ◌++◌, length, get_or, take, sym, ap, ◌∙◌, subst}
use Rattle.std.proofs.lemmas.List.{take_more}
use Rattle.mj_ast.specs.declared.routine.Routine.{Routine}
use Rattle.mj_ast.specs.Trees.{routine_of}
use Rattle.mj_pcode.specs.declared.instr.Unit as unit
use Rattle.mj_asm.specs.Correct.{IsUnitOf}
use Rattle.mj_load.specs.Image.{AreUnits}

added : (rs : List Routine) (us : List unit.Unit) (r : Routine) (u : unit.Unit) → AreUnits rs us → IsUnitOf (routine_of r) u → AreUnits (rs ++ r ∷ []) (us ++ u ∷ [])
added [] [] r u h k = (k, tt)
added [] (v ∷ us) r u h k = absurd h
added (q ∷ rs) [] r u h k = absurd h
added (q ∷ rs) (v ∷ us) r u h k = (h.0, added rs us r u h.1 k)

pub one_more : (rs : List Routine) (us new : List unit.Unit) (k : ℕ) (r : Routine) (u : unit.Unit)
    → k < length rs → r ≡ get_or rs k r → AreUnits (take k rs) us → IsUnitOf (routine_of r) u → new ≡ us ++ u ∷ [] → AreUnits (take (k + 1) rs) new
one_more rs us new k r u lt e h code made =
    let front : take k rs ++ r ∷ [] ≡ take (k + 1) rs = ap (λ x. take k rs ++ x ∷ []) e ∙ sym (take_more rs k r lt) in
    subst (λ l. AreUnits l new) front (subst (AreUnits (take k rs ++ r ∷ [])) (sym made) (added (take k rs) us r u h code))
