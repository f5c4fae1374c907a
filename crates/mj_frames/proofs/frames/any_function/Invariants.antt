use Rattle.std.proofs.Common.{◌≡◌, drop, map}
use Rattle.std.specs.List.{list_any}
use Rattle.mj_frames.specs.Frames.{frame_of}
use Rattle.mj_frames.proofs.frames.any_function.Given as goal

-- none of those before it is one
abbrev pub invariant-loop-frame : goal.invariant-loop-frame
invariant-loop-frame l = list_any (λ f. f.function) (map frame_of (drop l.frame-index l.frames)) ≡ list_any (λ f. f.function) (map frame_of l.frames)
