use Rattle.std.proofs.Common.{◌≡◌, take}
use Rattle.mj_ask.proofs.same.are_same_values.Given as goal

-- those so far are the same
abbrev pub invariant-loop-i : goal.invariant-loop-i
invariant-loop-i l = take l.i l.one ≡ take l.i l.other
