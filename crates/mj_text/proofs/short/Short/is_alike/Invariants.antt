use Rattle.std.proofs.Common.{◌≡◌, ℕ, ◌<◌, get_or}
use Rattle.std.specs.Prelude.{IsTrue}
use Rattle.mj_text.proofs.short.Short.is_alike.Given as goal

abbrev pub invariant-loop-place : goal.invariant-loop-place
invariant-loop-place l = record {
  len : IsTrue l.alike → l.self.len ≡ l.other.len;
  room : IsTrue l.alike → (k : ℕ) → k < l.place → get_or l.self.room k 0 ≡ get_or l.other.room k 0;
}
