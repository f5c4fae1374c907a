-- Past the last subscript there is the empty text.
use Rattle.std.proofs.Common.{◌≡◌, ◌-◌, zero, suc, [], None, ℤ, pos, negsuc, nat_abs, w64, refl, ap, ◌∙◌, arith}
use Rattle.std.specs.Prelude.{slice_get, unwrap_or}
use Rattle.std.proofs.lemmas.Int.{ints, to_z-of_z}
use Rattle.std.proofs.lemmas.Option.{unwrap_or-slice_get}
use mir.Val.{SFits}
use Rattle.mj_subs.specs.Name.{Name}
use Rattle.mj_nref.specs.Spelling.{part_at}
use Rattle.mj_nref.proofs.parts.part_of.Goals as goal

no_part : (n : Name) (z : ℤ) → (nat_abs z ≡ 0 → ⊥) → None ≡ slice_get n.subscripts (nat_abs z - 1) → [] ≡ part_at n z
no_part n (negsuc k) nz e = refl
no_part n (pos zero) nz e = absurd (nz refl)
no_part n (pos (suc k)) nz e =
    let at : suc k - 1 ≡ k = omega arith in
    ap (λ o. unwrap_or o []) (e ∙ ap (slice_get n.subscripts) at) ∙ unwrap_or-slice_get n.subscripts k []

pub returns-in-None : goal.returns-in-None
returns-in-None c =
    let fits : SFits w64 c.value-place.result = grind (arith, ints) in
    let same = to_z-of_z w64 c.value-place.result (fits) ∙ c.value-place.ensures.value in
    let nz = rw same at c.if-place-eq0.false in
    let none = rw (same, c.subscripts.ensures) at c.in-None.ensures in
    c.new-in-None.ensures ∙ no_part c.args.name.now c.args.place nz none
