-- Copies of locals, to which a restart goes back.
use Rattle.std.specs.Prelude.{◌≡◌, ℕ, Bool, true, if◌then◌else◌, List, [], ◌∷◌, map}
use Rattle.mj_semantics.specs.State.{Saved, Only, AllBut, put_back}
use Rattle.mj_locals.specs.Held.{Held, with_now, after_unwind}
use Rattle.mj_locals.specs.Trees.{Trees, at, has_room, all_spared, content}
use Rattle.mj_locals.specs.Hiding.{all_put}

-- whether they are those of all words that had nodes, and the trees with their words
abbrev pub Copies : Type 0
Copies = Bool × Trees

-- the trees of these words
abbrev pub copied : List (List ℕ) → Trees → Trees
copied words ts = map (λ w. (w, at ts w)) words

-- what they are, as a job's state has it
abbrev pub saved_of : Copies → Saved
saved_of c = record { words = if c.0 then AllBut [] else Only (map (λ k. k.0) c.1); locals = content c.1 }

-- each of these words stands there
abbrev pub HaveRoom : Trees → Trees → Type 0
HaveRoom ts [] = Unit {0}
HaveRoom ts (k ∷ ks) = (has_room ts k.0 ≡ true) × HaveRoom ts ks

-- the trees are put to their words
abbrev pub all_put_back : Copies → Trees → Trees
all_put_back c ts = all_put c.1 (if c.0 then all_spared [] ts else ts)

-- what was saved above a height is put back, the newest first, and then what was copied
abbrev pub after_return : ℕ → Saved → Held → Held
after_return height v h = let back : Held = after_unwind height h in with_now (put_back v back.now) back
