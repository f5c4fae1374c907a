-- What NEWs saved, as groups of trees with the places of their words.
use Rattle.std.specs.Prelude.{T, ℕ, List, [], ◌∷◌, ◌++◌, Option, None}
use Rattle.std.specs.FinMap.{is_sorted}
use Rattle.std.specs.Cmp.Lexicographic.{slice_cmp}
use Rattle.mj_subs.specs.Collation.{subscript_cmp}
use Rattle.mj_store.specs.Questions.{Subtree}

-- trees with the places of their words
abbrev pub Pairs : Type 0
Pairs = List (ℕ × Subtree)

-- what one NEW saved, and the words that it doesn't cover, where it covers all others
abbrev pub Group : Type 0
Group = Option (List (List ℕ)) × Pairs

-- the trees of the newest group
abbrev pub newest : List Group → Pairs
newest [] = []
newest (g ∷ gs) = g.1

-- the words that the newest group spares
abbrev pub spared_by : List Group → Option (List (List ℕ))
spared_by [] = None
spared_by (g ∷ gs) = g.0

-- all groups but the newest
abbrev pub rest : List Group → List Group
rest [] = []
rest (g ∷ gs) = gs

-- a group begins
abbrev pub with_new_group : Option (List (List ℕ)) → List Group → List Group
with_new_group kept gs = (kept, []) ∷ gs

-- a tree comes into the newest group
abbrev pub saved : ℕ × Subtree → List Group → List Group
saved p [] = []
saved p (g ∷ gs) = (g.0, g.1 ++ p ∷ []) ∷ gs

-- the newest group has these trees now
abbrev pub reduced : Pairs → List Group → List Group
reduced ps [] = []
reduced ps (g ∷ gs) = (g.0, ps) ∷ gs

-- in each tree the subscripts rise
abbrev pub AreTreesOf : Pairs → Type 0
AreTreesOf [] = Unit {0}
AreTreesOf (p ∷ ps) = T (is_sorted (slice_cmp subscript_cmp) p.1) × AreTreesOf ps

abbrev pub AreSorted : List Group → Type 0
AreSorted [] = Unit {0}
AreSorted (g ∷ gs) = AreTreesOf g.1 × AreSorted gs
