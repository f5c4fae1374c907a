use Rattle.std.proofs.Common.{◌≡◌, take, map}
use Rattle.mj_frames.specs.Frames.{frame_of}
use Rattle.mj_views.proofs.copies.copy_frames.Given as goal

abbrev pub invariant-loop-frame : goal.invariant-loop-frame
invariant-loop-frame l = map frame_of l.copies.items ≡ map frame_of (take l.frame-index l.frames)
