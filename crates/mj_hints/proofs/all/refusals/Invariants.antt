use Rattle.mj_hints.proofs.Told.{GoesOn}
use Rattle.mj_hints.proofs.all.refusals.Given as goal

-- what is refused of the text behind what was told is refused of the bytes
abbrev pub invariant-lines : goal.invariant-lines
invariant-lines l = GoesOn l.most l.left l.name l.bytes l.text.items l.refusals.items

abbrev pub decreases-lines : goal.decreases-lines
decreases-lines l = l.left
