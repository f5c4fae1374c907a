-- What holds of each place between two, one place more.
use Rattle.std.proofs.Common.{◌≡◌, ℕ, ◌+◌, ◌<◌, sym, subst, ◌⊎◌, inl, inr}
use Rattle.mj_explain.proofs.Tables.{less_or_same}

pub between_more : (P : ℕ → Type 0) (after place : ℕ) → ((k : ℕ) → after < k → k < place → P k) → P place
    → (k : ℕ) → after < k → k < place + 1 → P k
between_more P after place before here k more less = by (less_or_same k place less)
  where
    by : (k < place) ⊎ (k ≡ place) → P k
    by (inl first) = before k more first
    by (inr same) = subst P (sym same) here
