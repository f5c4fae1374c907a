-- What NEW hides, and what undoing it shows again.
use Rattle.std.specs.Prelude.{◌≡◌, ℕ, ◌<◌, cond, List, [], ◌∷◌, Option, None, Some, length, map, IsTrue}
use Rattle.mj_semantics.specs.State.{AllBut, covers}
use Rattle.mj_locals.specs.Groups.{Group, newest}
use Rattle.mj_locals.specs.Kept.{named, HavePlaces, AreOthers}
use Rattle.mj_locals.specs.Trees.{Trees, at, has_room, placed, word_at, all_spared}

-- no word goes, and each keeps its place
abbrev pub Grows : Trees → Trees → Type 0
Grows ts us = (p : ℕ) → p < length ts → (p < length us) × (word_at us p ≡ word_at ts p)

-- a group is new, each of whose words has no node any more, and had those that are saved first
abbrev pub Hides : Option (List (List ℕ)) → Trees → Trees → List Group → List Group → Type 0
Hides kept ts us gs hs =
    Grows ts us
    × (hs ≡ (kept, newest hs) ∷ gs)
    × HavePlaces (length us) (newest hs)
    × ((v : List ℕ) → at us v ≡ cond (has_room (named us (newest hs)) v) [] (at ts v))
    × ((v : List ℕ) → at (named us (newest hs)) v ≡ cond (has_room (named us (newest hs)) v) (at ts v) [])

-- those words are these
abbrev pub HidesOnly : List (List ℕ) → Trees → Trees → List Group → List Group → Type 0
HidesOnly ws ts us gs hs = Hides None ts us gs hs × (map (λ k. k.0) (named us (newest hs)) ≡ ws)

-- those words are all that stood at so many places but these
abbrev pub HidesOthersTo : ℕ → List (List ℕ) → Trees → Trees → List Group → List Group → Type 0
HidesOthersTo n ws ts us gs hs =
    Hides (Some ws) ts us gs hs
    × AreOthers ws (named us (newest hs))
    × ((p : ℕ) → p < n → IsTrue (covers (AllBut ws) (word_at ts p)) → IsTrue (has_room (named us (newest hs)) (word_at ts p)))

-- those words are all that stood there but these
abbrev pub HidesOthers : List (List ℕ) → Trees → Trees → List Group → List Group → Type 0
HidesOthers ws ts us gs hs = HidesOthersTo (length ts) ws ts us gs hs

-- trees are put to their words, the last one first
abbrev pub all_put : Trees → Trees → Trees
all_put [] ts = ts
all_put (k ∷ ks) ts = placed (all_put ks ts) k.0 k.1

-- all words go but those that were spared
abbrev pub kept_of : Option (List (List ℕ)) → Trees → Trees
kept_of None ts = ts
kept_of (Some kept) ts = all_spared kept ts
