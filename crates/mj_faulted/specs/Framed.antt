-- Where frames stand.
use Rattle.std.specs.Prelude.{List, map}
use Rattle.mj_semantics.specs.State.{Place}
use Rattle.mj_frames.specs.declared.frame.Frame.{Frame}
use Rattle.mj_frames.specs.Frames.{frames_of}

-- the places of frames that lie in a list with the innermost last, the innermost first
abbrev pub places_of : List Frame → List Place
places_of frames = map (λ f. f.place) (frames_of frames)
