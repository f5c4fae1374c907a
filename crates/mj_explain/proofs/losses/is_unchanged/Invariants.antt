use Rattle.std.proofs.Common.{◌≡◌, ℕ, ◌<◌, false}
use Rattle.mj_explain.specs.Landings.{made_at}
use Rattle.mj_explain.specs.Losses.{are_to}
use Rattle.mj_explain.proofs.losses.is_unchanged.Given as goal

abbrev pub invariant-loop-place : goal.invariant-loop-place
invariant-loop-place l = (k : ℕ) → l.after < k → k < l.place → are_to l.events l.name (made_at l.events k) ≡ false
