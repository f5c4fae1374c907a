use Rattle.std.proofs.Common.{◌≡◌, ◌++◌, drop}
use Rattle.mj_nref.specs.Spelling.{rest_text}
use Rattle.mj_nref.proofs.spelling.put_subscripts.Given as goal

abbrev pub invariant-loop-sub : goal.invariant-loop-sub
invariant-loop-sub l = l.bytes.items ++ rest_text (drop l.sub-index l.rest) ≡ l.initial.bytes.items ++ rest_text l.rest
