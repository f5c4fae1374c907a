use Rattle.std.proofs.Common.{◌≡◌, ◌++◌}
use Rattle.mj_dialogue.proofs.Showing.{framed}
use Rattle.mj_dialogue.proofs.shows.frame_lines.Given as goal

-- the lines so far, and those of the frames that are left, are all
abbrev pub invariant-loop-frame : goal.invariant-loop-frame
invariant-loop-frame l = framed l.fn.frames ≡ l.bytes.items ++ framed l.frame-iterator.iter.rest.now
