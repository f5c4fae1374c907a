use Rattle.std.proofs.Common.{◌≡◌, ◌-◌, length, drop}
use Rattle.mj_frames.proofs.frames.Frames.truncate.Given as goal

-- what is still to go leads to the same
abbrev pub invariant-loop-self : goal.invariant-loop-self
invariant-loop-self l = drop (length l.self - l.depth) l.self ≡ drop (length l.fn.self - l.depth) l.fn.self

abbrev pub decreases-loop-self : goal.decreases-loop-self
decreases-loop-self l = length l.self
