-- Where a word or a name ends.
use Rattle.std.proofs.Common.{◌≡◌, ℕ, ◌<◌, List, [], ◌∷◌, length, refl, sym, arith}
use Rattle.std.proofs.lemmas.Bool.{ne_eqb}
use Rattle.std.specs.Prelude.{◌==◌}
use Rattle.mj_hints.specs.Near.{is_slip}

-- the word ends: one letter of the name is left
pub slip_none : (word name : List ℕ) → length word < 1 → is_slip word name ≡ (length name == 1)
slip_none [] [] h = refl
slip_none [] (c ∷ []) h = refl
slip_none [] (c ∷ d ∷ cs) h = sym (ne_eqb (length (c ∷ d ∷ cs)) 1 (λ (e : length (c ∷ d ∷ cs) ≡ 1). omega (arith, e)))
slip_none (b ∷ bs) name h = absurd (omega (arith, h))

-- the name ends: one letter of the word is left
pub slip_one : (b : ℕ) (bs name : List ℕ) → length name < 1 → is_slip (b ∷ bs) name ≡ (length bs == 0)
slip_one b [] [] h = refl
slip_one b (c ∷ bs) [] h = sym (ne_eqb (length (c ∷ bs)) 0 (λ (e : length (c ∷ bs) ≡ 0). omega (arith, e)))
slip_one b bs (c ∷ cs) h = absurd (omega (arith, h))
