-- Rows of the definitions.
use Rattle.std.specs.Prelude.{◌≡◌, refl, [], ◌∷◌, Some, None, codes}
use Rattle.mj_load.specs.Image.{repeated}

-- A, B: no name comes again
apart : repeated [] (codes "A" ∷ codes "B" ∷ []) ≡ None
apart = refl

-- A, B, A
again : repeated [] (codes "A" ∷ codes "B" ∷ codes "A" ∷ []) ≡ Some (codes "A")
again = refl

-- A, B, B, A: B is the first that comes again
first : repeated [] (codes "A" ∷ codes "B" ∷ codes "B" ∷ codes "A" ∷ []) ≡ Some (codes "B")
first = refl

-- a name that another begins with is another one
front : repeated [] (codes "AB" ∷ codes "A" ∷ []) ≡ None
front = refl
