-- The devices of a pool, by name.
use Rattle.std.specs.Prelude.{ℕ, ◌+◌, ◌-◌, ◌<◌, ◌≤◌, ◌≡◌, Bool, not, cond, List, [], ◌∷◌, Some, None, length, slice_set, slice_index_or}
use Rattle.std.specs.List.{find, insert}
use Rattle.std.specs.Str.{bytes_eq}
use Rattle.std.specs.Ordering.{nat_cmp, is_lt, match_ordering}
use Rattle.std.specs.Cmp.Lexicographic.{slice_cmp}
use Rattle.std.specs.declared.cmp.Ordering.TheVariants.{Less}

-- a name, how many of its devices no session has yet, and how many were taken
pub record Shelf : Type 0 where
  pub name : List ℕ
  pub left : ℕ
  pub taken : ℕ

-- a name comes before another by its bytes
abbrev pub is_before : List ℕ → List ℕ → Bool
is_before name other = is_lt (slice_cmp nat_cmp name other)

-- the shelf has this name
abbrev pub is_named : List ℕ → Shelf → Bool
is_named name shelf = bytes_eq shelf.name name

-- the shelf's name doesn't come before this one
abbrev pub is_behind : List ℕ → Shelf → Bool
is_behind name shelf = not (is_before shelf.name name)

-- a name with its first device
abbrev pub new_shelf : List ℕ → Shelf
new_shelf name = record { name = name; left = 1; taken = 0 }

-- one device more
abbrev pub one_more : Shelf → Shelf
one_more shelf = record shelf { left = shelf.left + 1 }

-- a name with so many devices
abbrev pub shelf_of : ℕ → List ℕ → Shelf
shelf_of count name = record { name = name; left = count; taken = 0 }

-- so many devices more
abbrev pub more_by : ℕ → Shelf → Shelf
more_by count shelf = record shelf { left = shelf.left + count }

-- one device is taken
abbrev pub one_taken : Shelf → Shelf
one_taken shelf = record shelf { left = shelf.left - 1; taken = shelf.taken + 1 }

-- the first element that passes a test, changed
abbrev pub with_first : {X : Type 0} → (X → Bool) → (X → X) → List X → List X
with_first p f [] = []
with_first p f (x ∷ xs) = cond (p x) (f x ∷ xs) (x ∷ with_first p f xs)

-- the pool with one device more of this name, the names in order
abbrev pub added : List ℕ → List Shelf → List Shelf
added name [] = new_shelf name ∷ []
added name (shelf ∷ shelves) =
    match_ordering (slice_cmp nat_cmp shelf.name name)
    (shelf ∷ added name shelves)
    (one_more shelf ∷ shelves)
    (new_shelf name ∷ shelf ∷ shelves)

-- the pool with so many devices more of this name, which has a shelf then, the names in order
abbrev pub grown : ℕ → List ℕ → List Shelf → List Shelf
grown count name [] = shelf_of count name ∷ []
grown count name (shelf ∷ shelves) =
    match_ordering (slice_cmp nat_cmp shelf.name name)
    (shelf ∷ grown count name shelves)
    (more_by count shelf ∷ shelves)
    (shelf_of count name ∷ shelf ∷ shelves)

-- the name has a shelf, and here it stands
pub record IsThere (name : List ℕ) (shelves : List Shelf) (place : ℕ) : Type 0 where
  pub within : place < length shelves
  pub changes : (d : Shelf) → added name shelves ≡ slice_set shelves place (one_more (slice_index_or shelves place d))
  pub changes_by : (count : ℕ) (d : Shelf) → grown count name shelves ≡ slice_set shelves place (more_by count (slice_index_or shelves place d))

-- the name has no shelf, and here it belongs
pub record Belongs (name : List ℕ) (shelves : List Shelf) (place : ℕ) : Type 0 where
  pub within : place ≤ length shelves
  pub grows : added name shelves ≡ insert shelves place (new_shelf name)
  pub grows_by : (count : ℕ) → grown count name shelves ≡ insert shelves place (shelf_of count name)

-- the pool once a device of this name is taken
abbrev pub after_take : List ℕ → List Shelf → List Shelf
after_take name shelves = with_first (is_named name) one_taken shelves

-- how many devices of this name are left
abbrev pub left_of : List ℕ → List Shelf → ℕ
left_of name shelves = elim (find (is_named name) shelves) [ None ↦ 0 | Some shelf ↦ shelf.left ]

-- how many devices of this name were taken
abbrev pub taken_of : List ℕ → List Shelf → ℕ
taken_of name shelves = elim (find (is_named name) shelves) [ None ↦ 0 | Some shelf ↦ shelf.taken ]

-- a name with the number of all its devices
abbrev pub count_of : Shelf → List ℕ × ℕ
count_of shelf = (shelf.name, shelf.left + shelf.taken)

-- the name of each job's principal device, `0` (this profile)
abbrev pub principal : List ℕ
principal = 48 ∷ []

-- a name comes before the first of a list, if there is one
abbrev pub IsBelow : List ℕ → List Shelf → Type 0
IsBelow name [] = Unit {0}
IsBelow name (shelf ∷ shelves) = slice_cmp nat_cmp name shelf.name ≡ Less

-- the names rise by their bytes, so each stands once
abbrev pub AreRising : List Shelf → Type 0
AreRising [] = Unit {0}
AreRising (shelf ∷ shelves) = IsBelow shelf.name shelves × AreRising shelves
