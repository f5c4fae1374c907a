use Rattle.std.proofs.Common.{◌≡◌, ℕ, ◌<◌, false}
use Rattle.std.specs.Prelude.{slice_get}
use Rattle.mj_explain.specs.Events.{is_touch_of}
use Rattle.mj_explain.proofs.losses.is_untouched.Given as goal

abbrev pub invariant-loop-place : goal.invariant-loop-place
invariant-loop-place l = (k : ℕ) → l.after < k → k < l.place → is_touch_of l.job l.name (slice_get l.events k) ≡ false
