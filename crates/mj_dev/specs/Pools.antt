-- A pool that has so many devices of each name.
use Rattle.std.specs.Prelude.{ℕ, zero, suc, List, [], ◌∷◌}
use Rattle.mj_dev.specs.Shelves.{Shelf, added}

-- with so many devices more of a name
abbrev pub with_more : ℕ → List ℕ → List Shelf → List Shelf
with_more zero name shelves = shelves
with_more (suc n) name shelves = with_more n name (added name shelves)

-- with so many devices more of each name
abbrev pub with_all : List (List ℕ × ℕ) → List Shelf → List Shelf
with_all [] shelves = shelves
with_all (count ∷ counts) shelves = with_all counts (with_more count.1 count.0 shelves)

-- so many devices of each name
abbrev pub shelves_of : List (List ℕ × ℕ) → List Shelf
shelves_of counts = with_all counts []
