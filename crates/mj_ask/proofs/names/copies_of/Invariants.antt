use Rattle.std.proofs.Common.{◌≡◌, take}
use Rattle.mj_ask.proofs.names.copies_of.Given as goal

-- those so far are there
abbrev pub invariant-loop-name : goal.invariant-loop-name
invariant-loop-name l = l.copies.items ≡ take l.name-index l.names
