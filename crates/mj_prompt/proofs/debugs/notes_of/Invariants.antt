use Rattle.std.proofs.Common.{◌≡◌, ◌++◌, drop}
use Rattle.mj_prompt.proofs.debugs.notes_of.Given as goal

-- with those that are left it is all of them
abbrev pub invariant-loop-start : goal.invariant-loop-start
invariant-loop-start l = record { left : l.copies.items ++ drop l.start-index l.starts ≡ l.starts }
