-- Which contents keep to a limit of texts.
use Rattle.std.specs.Prelude.{ℕ, Bool, true, List}
use Rattle.std.specs.List.{list_all}
use Rattle.mj_text.specs.declared.limit.Limit.{Limit}
use Rattle.mj_text.specs.declared.limit.Limit.TheVariants.{V1, V2}
use Rattle.mj_subs.specs.Name.{Name}
use Rattle.mj_store.specs.Questions.{Content}
use Rattle.mj_store.specs.Within.{is_node_within}

-- each subscript of the name and its text is one of the limit
abbrev pub is_entry_within : Limit → Name × List ℕ → Bool
is_entry_within limit e = is_node_within limit (e.0.subscripts, e.1)

-- each subscript and each text of a content is one of the limit. None is above the greater one
abbrev pub is_content_within : Limit → Content → Bool
is_content_within V1 content = list_all (is_entry_within V1) content
is_content_within V2 content = true
