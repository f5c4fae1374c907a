-- What the words of a store hold, one word after the other.
use Rattle.std.specs.Prelude.{T, ℕ, Bool, true, false, List, [], ◌∷◌, ◌++◌, map}
use Rattle.std.specs.Prelude.{Vec}
use Rattle.std.specs.Global.{Global}
use Rattle.std.specs.Ordering.{nat_cmp}
use Rattle.std.specs.Cmp.Lexicographic.{slice_cmp}
use Rattle.std.specs.FinMap.{is_sorted}
use Rattle.mj_subs.specs.Collation.{name_cmp}
use Rattle.mj_subs.specs.Name.{Name}
use Rattle.mj_store.specs.Questions.{Content, Subtree}

-- the words with their nodes
abbrev pub Words : Type 0
Words = List (List ℕ × Subtree)

-- the words by their bytes
abbrev pub spelled : {X : Type 0} → List (Vec ℕ Global × X) → List (List ℕ × X)
spelled es = map (λ k. (k.0.items, k.1)) es

-- the name of a kind with a word and subscripts
abbrev pub name : Bool → List ℕ → List (List ℕ) → Name
name g w p = record { global = g; word = w; subscripts = p }

-- the nodes of one word, by their names
abbrev pub of_word : Bool → List ℕ → Subtree → Content
of_word g w nodes = map (λ e. (name g w e.0, e.1)) nodes

-- the nodes of all words of a kind
abbrev pub of_kind : Bool → Words → Content
of_kind g [] = []
of_kind g (k ∷ ks) = of_word g k.0 k.1 ++ of_kind g ks

-- the nodes of all words of a kind, where the words are told by their bytes
abbrev pub spelled_of : Bool → List (Vec ℕ Global × Subtree) → Content
spelled_of g es = of_kind g (spelled es)

-- globals stand before locals
abbrev pub of_both : Words → Words → Content
of_both globals locals = of_kind true globals ++ of_kind false locals

-- the words rise in each kind, and the names in all
abbrev pub AreRising : Words → Words → Type 0
AreRising globals locals = T (is_sorted (slice_cmp nat_cmp) globals) × T (is_sorted (slice_cmp nat_cmp) locals) × T (is_sorted name_cmp (of_both globals locals))
