-- The frames that a job keeps.
use Rattle.std.specs.Prelude.{ℕ, ◌+◌, ◌≤◌, List, [], ◌∷◌, Option, Some, None, Bool, false, option_map, length, map, reverse}
use Rattle.std.specs.Borrow.{Bor}
use Rattle.mj_semantics.specs.State.{Place, Frame}
use Rattle.mj_frames.specs.declared.frame.Place as kept
use Rattle.mj_frames.specs.declared.frame.Frame as frames

abbrev pub place_of : kept.Place → Place
place_of p = record { routine = p.routine; line = p.line }

abbrev pub frame_of : frames.Frame → Frame
frame_of f = record { place = place_of f.place; level = f.level; function = f.function; test = f.test; height = f.height }

-- frames that lie in a list with the innermost last, the innermost first
abbrev pub frames_of : List frames.Frame → List Frame
frames_of list = reverse (map frame_of list)

-- the innermost frame, if there is one, at another place
abbrev pub with_place : Place → List Frame → List Frame
with_place p frames = elim frames [ [] ↦ [] | f ∷ fs ↦ record f { place = p } ∷ fs ]

-- the innermost frame, if there is one
abbrev pub innermost : List Frame → Option Frame
innermost frames = elim frames [ [] ↦ None | f ∷ fs ↦ Some f ]

-- the level of the innermost frame's lines
abbrev pub level_in : List Frame → ℕ
level_in frames = elim frames [ [] ↦ 1 | f ∷ fs ↦ f.level ]

-- whether the innermost frame is a function's
abbrev pub function_in : List Frame → Bool
function_in frames = elim frames [ [] ↦ false | f ∷ fs ↦ f.function ]

-- no frame's level is more than one above the number of frames up to it
abbrev pub AreShallow : List Frame → Type 0
AreShallow [] = Unit {0}
AreShallow (f ∷ fs) = (f.level ≤ length fs + 2) × AreShallow fs

-- a routine's name by reference, with the number of a line
abbrev pub place_at : Option (Bor (List ℕ) × ℕ) → Option Place
place_at place = option_map (λ p. record { routine = p.0.now; line = p.1 }) place

-- a frame by reference
abbrev pub frame_at : Option (Bor frames.Frame) → Option Frame
frame_at frame = option_map (λ f. frame_of f.now) frame

-- the innermost frame, if there is one, and the others
abbrev pub popped_from : List Frame → Option Frame × List Frame
popped_from frames = elim frames [ [] ↦ (None, []) | f ∷ fs ↦ (Some f, fs) ]
