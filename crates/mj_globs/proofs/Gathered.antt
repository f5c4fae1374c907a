-- What a walk over the nodes of a word gathers.
use Rattle.std.proofs.Common.{◌≡◌, ℕ, Bool, List, [], ◌∷◌, ◌++◌, ◌≤◌, length, drop, refl, sym, ap, ◌∙◌, append-nil}
use Rattle.std.proofs.lemmas.List.{drop_all}
use Rattle.mj_subs.specs.Collation.{subscript_cmp}
use Rattle.mj_store.specs.Nodes.{subtree}
use Rattle.mj_store.specs.Questions.{Content, Subtree}
use Rattle.mj_globs.specs.Words.{of_word}

-- all nodes stand below no subscript
pub whole_subtree : (nodes : Subtree) → subtree subscript_cmp [] nodes ≡ nodes
whole_subtree [] = refl
whole_subtree (e ∷ es) = ap (λ (r : Subtree). e ∷ r) (whole_subtree es)

-- all nodes of a word are gathered
pub word_whole : (g : Bool) (word : List ℕ) (front : List (List ℕ)) (tree below items : Subtree) (start after : Content) (i : ℕ)
    → after ++ of_word g word (drop i items) ≡ start ++ of_word g word items → length items ≤ i → items ≡ below → below ≡ subtree subscript_cmp front tree → front ≡ []
    → after ≡ start ++ of_word g word tree
word_whole g word front tree below items start after i so past is has none =
    sym (append-nil after)
    ∙ ap (λ (xs : Subtree). after ++ of_word g word xs) (sym (drop_all i items past))
    ∙ so
    ∙ ap (λ (xs : Subtree). start ++ of_word g word xs) (is ∙ has ∙ ap (λ (p : List (List ℕ)). subtree subscript_cmp p tree) none ∙ whole_subtree tree)
