use Rattle.memchr.specs.Find.{Nowhere, Passes, is_byte}
use Rattle.mj_strfn.proofs.search.behind_byte.Given as goal

abbrev pub invariant-loop-place : goal.invariant-loop-place
invariant-loop-place l = Nowhere (Passes (is_byte l.separator) l.bytes) 0 l.place
