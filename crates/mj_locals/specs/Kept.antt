-- How locals are kept.
use Rattle.std.specs.Prelude.{◌≡◌, ℕ, ◌<◌, false, List, [], ◌∷◌, Option, None, Some, map, length}
use Rattle.std.specs.List.{list_any}
use Rattle.std.specs.Str.{bytes_eq}
use Rattle.mj_semantics.specs.State.{Words, Only, AllBut, Saved}
use Rattle.mj_locals.specs.declared.locals.Locals.TheInside.{Inside}
use Rattle.mj_locals.specs.Held.{Held}
use Rattle.mj_locals.specs.Groups.{Pairs, Group}
use Rattle.mj_locals.specs.Trees.{Trees, word_at, content}

-- trees with their words in place of those words' places
abbrev pub named : Trees → Pairs → Trees
named ts [] = []
named ts (p ∷ ps) = (word_at ts p.0, p.1) ∷ named ts ps

-- which words a NEW covers, that saved these
abbrev pub words_of : Option (List (List ℕ)) → Trees → Words
words_of None saved = Only (map (λ k. k.0) saved)
words_of (Some kept) saved = AllBut kept

-- what one NEW saved, as a job's state has it
abbrev pub seen : Trees → Group → Saved
seen ts g = record { words = words_of g.0 (named ts g.1); locals = content (named ts g.1) }

-- the locals of words and of what NEWs saved
abbrev pub held_of : Trees → List Group → Held
held_of ts gs = record { now = content ts; saved = map (seen ts) gs }

abbrev pub held_by : Inside → Held
held_by a = held_of a.table a.trail

-- each tree has its place among so many
abbrev pub HavePlaces : ℕ → Pairs → Type 0
HavePlaces n [] = Unit {0}
HavePlaces n (p ∷ ps) = (p.0 < n) × HavePlaces n ps

-- no word is one of these
abbrev pub AreOthers : List (List ℕ) → Trees → Type 0
AreOthers kept [] = Unit {0}
AreOthers kept (k ∷ ks) = (list_any (bytes_eq k.0) kept ≡ false) × AreOthers kept ks

-- a NEW of all words but some saved none of those
abbrev pub AreCovered : Option (List (List ℕ)) → Trees → Type 0
AreCovered None saved = Unit {0}
AreCovered (Some kept) saved = AreOthers kept saved

-- what NEWs saved can be put back
abbrev pub CanBeUndone : Trees → List Group → Type 0
CanBeUndone ts [] = Unit {0}
CanBeUndone ts (g ∷ gs) = HavePlaces (length ts) g.1 × AreCovered g.0 (named ts g.1) × CanBeUndone ts gs

abbrev pub IsUndoable : Inside → Type 0
IsUndoable a = CanBeUndone a.table a.trail
