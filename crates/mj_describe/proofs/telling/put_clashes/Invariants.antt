use Rattle.std.proofs.Common.{◌≡◌, ◌++◌, drop}
use Rattle.mj_describe.specs.Words.{apart, clash_text}
use Rattle.mj_describe.proofs.telling.put_clashes.Given as goal

abbrev pub invariant-loop-clash : goal.invariant-loop-clash
invariant-loop-clash l =
    l.bytes.items ++ apart (clash_text l.shown) (drop l.clash-index l.clashes) ≡ l.fn.bytes.items ++ apart (clash_text l.shown) l.clashes
