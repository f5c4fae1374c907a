-- Actuals as they are written, and as a function gets them.
use Rattle.std.proofs.Common.{◌≡◌, ℕ, List, [], ◌∷◌, Bool, true, false, length, refl}
use Rattle.mj_semantics.specs.Evaluation.{plain_values}
use Rattle.mj_pcode.specs.Machine.{spread, given_count}
use Rattle.mj_asm.specs.Code.{plain_shape}

-- parentheses with nothing in them pass no value
pub plain_spread : (shape : List Bool) (vs : List (List ℕ)) → spread (plain_shape shape) vs ≡ plain_values (spread shape vs)
plain_spread [] vs = refl
plain_spread (false ∷ []) vs = refl
plain_spread (false ∷ false ∷ shape) vs = refl
plain_spread (false ∷ true ∷ shape) [] = refl
plain_spread (false ∷ true ∷ shape) (v ∷ vs) = refl
plain_spread (true ∷ shape) [] = refl
plain_spread (true ∷ shape) (v ∷ vs) = refl

pub plain_count : (shape : List Bool) → given_count (plain_shape shape) ≡ given_count shape
plain_count [] = refl
plain_count (false ∷ []) = refl
plain_count (false ∷ t ∷ shape) = refl
plain_count (true ∷ shape) = refl

-- more of them, or none, are as they are written
pub plain_many : (shape : List Bool) → (length shape ≡ 1 → ⊥) → plain_shape shape ≡ shape
plain_many [] other = refl
plain_many (true ∷ shape) other = refl
plain_many (false ∷ []) other = absurd (other refl)
plain_many (false ∷ t ∷ shape) other = refl
