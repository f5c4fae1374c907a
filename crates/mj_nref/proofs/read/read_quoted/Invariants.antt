use Rattle.std.proofs.Common.{◌≡◌, drop, false}
use Rattle.mj_nref.specs.Reading.{quoted_at}
use Rattle.mj_nref.proofs.Joined.{joined}
use Rattle.mj_nref.proofs.read.read_quoted.Given as goal

abbrev pub invariant-loop-place : goal.invariant-loop-place
invariant-loop-place l = quoted_at false l.bytes ≡ joined l.text.items (quoted_at l.after_quote (drop l.place l.bytes))
