-- Words with a tree each. A word may stand there without a node: it has room then.
use Rattle.std.specs.Prelude.{T, ◌≡◌, ℕ, ◌<◌, Bool, cond, is_some, List, [], ◌∷◌, ◌++◌, length, get_or, map, Option, None, Some, false, suc}
use Rattle.std.specs.Option.{option_map}
use Rattle.std.specs.List.{list_any}
use Rattle.std.specs.Str.{bytes_eq}
use Rattle.std.specs.Ordering.{is_eq, nat_cmp}
use Rattle.std.specs.Cmp.Lexicographic.{slice_cmp}
use Rattle.std.specs.Map.{lookup, set_value}
use Rattle.std.specs.BTreeMap.{is_at, insert_entry}
use Rattle.std.specs.FinMap.{is_sorted}
use Rattle.mj_subs.specs.Collation.{subscript_cmp}
use Rattle.mj_store.specs.Questions.{Content, Subtree}
use Rattle.mj_tree.specs.Nest.{nodes_of}
use Rattle.mj_globs.specs.Words.{of_kind}
use Rattle.mj_globs.specs.Words as words

abbrev pub Trees : Type 0
Trees = words.Words

-- the nodes of a word, of which there are none where it doesn't stand there
abbrev pub at : Trees → List ℕ → Subtree
at ts w = nodes_of (lookup (is_at (slice_cmp nat_cmp w)) ts)

-- whether a word stands there
abbrev pub has_room : Trees → List ℕ → Bool
has_room ts w = is_some (lookup (is_at (slice_cmp nat_cmp w)) ts)

-- a word that stands there has these nodes now
abbrev pub placed : Trees → List ℕ → Subtree → Trees
placed ts w nodes = set_value (is_at (slice_cmp nat_cmp w)) ts nodes

-- the word stands there, if only without a node
abbrev pub added : Trees → List ℕ → Trees
added ts w = cond (has_room ts w) ts (ts ++ (w, []) ∷ [])

-- the place of a word
abbrev pub place_of : List ℕ → Trees → Option ℕ
place_of w [] = None
place_of w (k ∷ ks) = cond (is_eq (slice_cmp nat_cmp w k.0)) (Some 0) (option_map suc (place_of w ks))

-- the word of a place
abbrev pub word_at : Trees → ℕ → List ℕ
word_at ts p = (get_or ts p ([], [])).0

-- this is the place of the word
abbrev pub IsPlace : List ℕ → ℕ → Trees → Type 0
IsPlace w p ts = (p < length ts) × (word_at ts p ≡ w)

-- all words but these have no nodes any more
abbrev pub all_spared : List (List ℕ) → Trees → Trees
all_spared ws ts = map (λ k. (k.0, cond (list_any (bytes_eq k.0) ws) k.1 [])) ts

-- in each tree the subscripts rise
abbrev pub AreTrees : Trees → Type 0
AreTrees [] = Unit {0}
AreTrees (k ∷ ks) = T (is_sorted (slice_cmp subscript_cmp) k.1) × AreTrees ks

-- the words by their bytes; where one stands twice, as it stands first
abbrev pub in_order : Trees → Trees
in_order [] = []
in_order (k ∷ ks) = insert_entry (slice_cmp nat_cmp) (in_order ks) k.0 k.1

-- the locals that they are
abbrev pub content : Trees → Content
content ts = of_kind false (in_order ts)
