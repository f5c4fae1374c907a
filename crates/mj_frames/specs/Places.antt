-- Where frames stand.
use Rattle.std.specs.Prelude.{List, [], ◌∷◌, Option, Some, None, option_map}
use Rattle.std.specs.Borrow.{Bor}
use Rattle.mj_semantics.specs.State.{Place, Frame}
use Rattle.mj_frames.specs.declared.frame.Place as kept
use Rattle.mj_frames.specs.Frames.{place_of}

-- where the innermost frame stands, if there is one
abbrev pub place_in : List Frame → Option Place
place_in frames = elim frames [ [] ↦ None | f ∷ fs ↦ Some f.place ]

-- a place by reference
abbrev pub line_at : Option (Bor kept.Place) → Option Place
line_at place = option_map (λ p. place_of p.now) place
