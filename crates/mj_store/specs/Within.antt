-- Which nodes keep to a limit of texts.
use Rattle.std.specs.Prelude.{ℕ, Bool, ◌&&◌, List}
use Rattle.std.specs.List.{list_all}
use Rattle.mj_text.specs.declared.limit.Limit.{Limit}
use Rattle.mj_text.specs.Limit.{is_within, are_within}
use Rattle.mj_store.specs.Questions.{Subtree}

-- each of the subscripts and the text is one of the limit
abbrev pub is_node_within : Limit → List (List ℕ) × List ℕ → Bool
is_node_within limit e = are_within limit e.0 && is_within limit e.1

abbrev pub are_nodes_within : Limit → Subtree → Bool
are_nodes_within limit nodes = list_all (is_node_within limit) nodes
