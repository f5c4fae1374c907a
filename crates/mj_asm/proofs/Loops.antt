-- The code of a FOR, whose first instruction gets its target once the ranges are there.
use Rattle.std.proofs.Common.{◌≡◌, ℕ, ◌+◌, List, [], ◌∷◌, Option, ◌++◌, length, ap, ◌∙◌}
use Rattle.std.specs.Prelude.{slice_set}
use Rattle.mj_ast.specs.Syntax.{Variable, Range}
use Rattle.mj_pcode.specs.declared.instr.Reference.{Reference}
use Rattle.mj_pcode.specs.declared.instr.Instr.{Instr}
use Rattle.mj_pcode.specs.declared.instr.Instr.TheVariants.{ForOpen, Discard}
use Rattle.mj_asm.specs.Code.{reference, subscripts_code, ranges_code, body_code, for_code}
use Rattle.mj_asm.proofs.Emitted.{opened}

pub looped : (base : List Instr) (x : Variable) (rs : List Range) (rest : ℕ → Option ℕ → List Instr) (local : Reference) (c1 c2 c3 c4 c5 : List Instr) (at : ℕ)
    → local ≡ reference x → c1 ≡ base ++ subscripts_code (length base) x → at ≡ length c1 → c2 ≡ c1 ++ Discard 0 ∷ []
    → c3 ≡ c2 ++ ranges_code (length c2) rs → c4 ≡ slice_set c3 at (ForOpen local.word local.count (length c3 + 1))
    → c5 ≡ c4 ++ body_code (length c4) rest → c5 ≡ base ++ for_code (length base) x rs rest
looped base x rs rest local c1 c2 c3 c4 c5 at e e1 m e2 e3 e4 e5 =
    let cs : List Instr = subscripts_code (length base) x in
    let ranges : ℕ → List Instr = λ p. ranges_code p rs in
    let passes : ℕ → List Instr = λ p. body_code p rest in
    let f : ℕ = length base + length cs + 1 in
    let last : ℕ = f + length (ranges f) in
    let begins : Reference → ℕ → Instr = λ r n. ForOpen r.word r.count (n + 1) in
    opened base cs (begins local) ranges passes c1 c2 c3 c4 c5 (Discard 0) at e1 m e2 e3 e4 e5
    ∙ ap (λ r. base ++ (cs ++ begins r last ∷ (ranges f ++ passes last))) e
