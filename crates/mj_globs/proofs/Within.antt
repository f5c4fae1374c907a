-- The names of all words keep to a limit where those of each word do.
use Rattle.std.proofs.Common.{◌≡◌, ℕ, Bool, true, false, ◌&&◌, List, [], ◌∷◌, ◌++◌, refl, sym, ap, ◌∙◌}
use Rattle.std.specs.List.{list_all}
use Rattle.std.proofs.lemmas.List.Folds.{list_all-append}
use Rattle.mj_text.specs.declared.limit.Limit.{Limit}
use Rattle.mj_store.specs.Questions.{Content, Subtree}
use Rattle.mj_store.specs.Within.{is_node_within, are_nodes_within}
use Rattle.mj_globs.specs.Words.{Words, of_word, of_kind}
use Rattle.mj_globs.specs.Within.{is_entry_within}

abbrev pub are_entries_within : Limit → Content → Bool
are_entries_within limit content = list_all (is_entry_within limit) content

module _ (limit : Limit) (g : Bool) where
  word_within : (w : List ℕ) (nodes : Subtree) → are_entries_within limit (of_word g w nodes) ≡ are_nodes_within limit nodes
  word_within w [] = refl
  word_within w (e ∷ es) = ap (λ b. is_node_within limit e && b) (word_within w es)

  module _ (w : List ℕ) (nodes : Subtree) (ks rest : Words) (is : ks ≡ (w, nodes) ∷ rest) where
    all : are_entries_within limit (of_kind g ks) ≡ (are_nodes_within limit nodes && are_entries_within limit (of_kind g rest))
    all =
        ap (λ (k : Words). are_entries_within limit (of_kind g k)) is
        ∙ list_all-append (is_entry_within limit) (of_word g w nodes) (of_kind g rest)
        ∙ ap (λ b. b && are_entries_within limit (of_kind g rest)) (word_within w nodes)

    -- a word whose names keep to it, so that those behind it decide
    pub next_within : are_nodes_within limit nodes ≡ true → are_entries_within limit (of_kind g ks) ≡ are_entries_within limit (of_kind g rest)
    next_within h = all ∙ ap (λ b. b && are_entries_within limit (of_kind g rest)) h

    -- a word whose names don't
    pub next_over : are_nodes_within limit nodes ≡ false → are_entries_within limit (of_kind g ks) ≡ false
    next_over h = all ∙ ap (λ b. b && are_entries_within limit (of_kind g rest)) h

-- those of both kinds
pub both_within : (limit : Limit) (xs ys entries : Content) → xs ++ ys ≡ entries → are_entries_within limit entries ≡ (are_entries_within limit xs && are_entries_within limit ys)
both_within limit xs ys entries is = ap (are_entries_within limit) (sym is) ∙ list_all-append (is_entry_within limit) xs ys
