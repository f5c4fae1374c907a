-- Where the asks of a job came from.
use Rattle.std.specs.Prelude.{◌≡◌, ℕ, zero, suc, ◌≤◌, List, [], ◌∷◌, ◌++◌, Option, Some, None, Bool, ⊤, length, option_map, slice_get}
use Rattle.mj_ask.specs.declared.ask.Ask.{Ask}
use Rattle.mj_ask.specs.declared.ask.Reply.{Reply}
use Rattle.mj_semantics.specs.State.{Locals, Place}
use Rattle.mj_semantics.specs.Outcome.{Needs}
use Rattle.mj_semantics.specs.Program.{Program}
use Rattle.mj_semantics.specs.Job.{Start, next}

-- the innermost of the places of some frames, if there is one
abbrev pub innermost : List Place → Option Place
innermost [] = None
innermost (p ∷ places) = Some p

-- what the run needs behind these replies it needs at this place: the line of the command that asks, or none, where no frame stands
abbrev pub IsPlaceOf : Program → Start → List Reply → Option Place → Type 0
IsPlaceOf program start told place =
    (n : ℕ) (a : Ask) (locals : Locals) (at : List Place) → next program start n told ≡ Needs a locals at → place ≡ innermost at

-- as many places as replies, each of the ask that such a reply is told to, behind those before it
abbrev pub AreBehind : Program → Start → List Reply → List Reply → List (Option Place) → Type 0
AreBehind program start told [] [] = ⊤
AreBehind program start told [] (p ∷ places) = ⊥
AreBehind program start told (r ∷ replies) [] = ⊥
AreBehind program start told (r ∷ replies) (p ∷ places) = IsPlaceOf program start told p × AreBehind program start (told ++ r ∷ []) replies places

-- the places of the asks that these replies were told to, from the job's first on
abbrev pub ArePlaces : Program → Start → List Reply → List (Option Place) → Type 0
ArePlaces program start replies places = AreBehind program start [] replies places

-- one of some routines' names, counted from 1
abbrev pub name_in : List (List ℕ) → ℕ → Option (List ℕ)
name_in routines zero = None
name_in routines (suc k) = slice_get routines k

-- a place as it is kept: which of the names is that of its routine, if it has one; and its line
abbrev pub spot_in : List (List ℕ) → ℕ × ℕ → Option Place
spot_in routines spot = option_map (λ routine. record { routine = routine; line = spot.1 }) (name_in routines spot.0)

-- there is such a name, unless the number is 0
abbrev pub IsKept : List (List ℕ) → ℕ × ℕ → Type 0
IsKept routines spot = spot.0 ≤ length routines

-- what is kept of a job's asks: the places of those that have their replies, that of the next one, and whether there is room for it among them
pub record Asked : Type 0 where
  pub places : List (Option Place)
  pub next : Option Place
  pub room : Bool

-- the names of before are there, in front
abbrev pub AreFront : List (List ℕ) → List (List ℕ) → Type 0
AreFront old new = (behind : List (List ℕ)) × (new ≡ old ++ behind)
