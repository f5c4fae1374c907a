-- What is left of a line that was begun.
use Rattle.std.specs.Prelude.{ℕ, ◌≤◌, ◌≡◌, List, [], ◌∷◌, Option, Some, None, length, drop}
use Rattle.mj_dev.specs.declared.device.Input.{Input}
use Rattle.mj_dev.specs.declared.device.Input.TheVariants as input
use Rattle.mj_dev.specs.declared.talk.Code.{Code}
use Rattle.mj_dev.specs.declared.talk.Code.TheVariants as codes

-- what is left of a line from a place on
abbrev pub rest_of : Option (List ℕ) → ℕ → Option (List ℕ)
rest_of None start = None
rest_of (Some line) start = Some (drop start line)

-- the place is one of the line, whose length is known
abbrev pub IsWithinLine : Option (List ℕ) → ℕ → ℕ → Type 0
IsWithinLine None start end = Unit {0}
IsWithinLine (Some line) start end = (start ≤ end) × (end ≡ length line)

-- the first byte's code is taken off a list, or 10 where it is empty
abbrev pub TakesOne : List ℕ → Code → Option (List ℕ) → Type 0
TakesOne [] code new = (code ≡ codes.Byte 10) × (new ≡ None)
TakesOne (byte ∷ bytes) code new = (code ≡ codes.Byte byte) × (new ≡ Some bytes)

-- the first byte's code is taken off a rest, where there is one
abbrev pub TakesFirst : Option (List ℕ) → Code → Option (List ℕ) → Type 0
TakesFirst None code new = (code ≡ codes.End) × (new ≡ None)
TakesFirst (Some rest) code new = TakesOne rest code new

-- a rest is taken whole, or memory is refused
abbrev pub TakesRest : List ℕ → Input → Option (List ℕ) → Type 0
TakesRest rest (input.Line line) new = (line ≡ rest) × (new ≡ None)
TakesRest rest input.End new = ⊥
TakesRest rest input.NotYet new = ⊥
TakesRest rest input.Failed new = ⊥
TakesRest rest input.Memory new = new ≡ Some rest

-- a rest is taken whole, where there is one
abbrev pub TakesAll : Option (List ℕ) → Input → Option (List ℕ) → Type 0
TakesAll None read new = (read ≡ input.End) × (new ≡ None)
TakesAll (Some rest) read new = TakesRest rest read new
