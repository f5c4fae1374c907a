-- The job of the last ask before a place, and the line that it came from.
use Rattle.std.proofs.Common.{◌≡◌, ◌<◌, ◌-◌, ◌==◌, ℕ, zero, suc, Bool, true, false, cond, eqb-true, Option, Some, None, refl, sym, ap, ◌∙◌, subst, arith}
use Rattle.std.specs.Prelude.{option_map, slice_get}
use Rattle.mj_semantics.specs.Program.{Program}
use Rattle.mj_semantics.specs.State.{Place}
use Rattle.mj_sys.specs.Shared.{Shared}
use Rattle.mj_sys.specs.History.{History}
use Rattle.mj_core.specs.Runs.{IsAskedFrom}
use Rattle.mj_inspect.specs.Spots.{CameFrom, asker}

above_zero : (n : ℕ) → 0 < n → (n == 0) ≡ false
above_zero n more = by (n == 0) refl
  where
    by : (b : Bool) → (n == 0) ≡ b → b ≡ false
    by true e = absurd (let z : n ≡ 0 = eqb-true n 0 e in omega (arith, z, more))
    by false e = refl

pub asker_none : (h : History) (place : ℕ) → place ≡ 0 → None ≡ asker h place
asker_none h place is = subst (λ p. None ≡ asker h p) (sym is) refl

pub asker_at : (h : History) (place at : ℕ) (found : Option ℕ) → 0 < place → at ≡ place - 1 → found ≡ option_map (λ e. e.job) (slice_get h at) → found ≡ asker h place
asker_at h place at found more is get =
    get
    ∙ ap (λ (k : ℕ). option_map (λ e. e.job) (slice_get h k)) is
    ∙ sym (ap (λ (b : Bool). cond b None (option_map (λ e. e.job) (slice_get h (place - 1)))) (above_zero place more))

-- before the first ask there is none
pub came_none : (program : Program) (opening : Shared) (h : History) (place : ℕ) → place ≡ 0 → CameFrom program opening h place None
came_none program opening h place is = subst (λ (p : ℕ). CameFrom program opening h p None) (sym is) refl

-- else it came from where that of the event before the place did
pub came_from : (program : Program) (opening : Shared) (h : History) (place last : ℕ) (at : Option Place) → 0 < place → last ≡ place - 1
    → IsAskedFrom program opening h last at → CameFrom program opening h place at
came_from program opening h zero last at more is from = absurd (omega (arith, more))
came_from program opening h (suc n) last at more is from =
    let same : last ≡ n = omega (arith, is) in
    subst (λ (k : ℕ). IsAskedFrom program opening h k at) same from
