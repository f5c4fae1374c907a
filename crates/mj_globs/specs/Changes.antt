-- What a list of changes leaves.
use Rattle.std.specs.Prelude.{Bool, false, List}
use Rattle.std.specs.List.{fold, list_any}
use Rattle.mj_subs.specs.Name.{Name}
use Rattle.mj_store.specs.Questions.{Content, same_word}
use Rattle.mj_store.specs.Changes.{after_set, after_kill, after_put, is_too_deep}
use Rattle.mj_globs.specs.declared.change.Change.{Change}
use Rattle.mj_globs.specs.declared.change.Change.TheVariants as change

-- what a change leaves
abbrev pub after_change : Content → Change → Content
after_change content (change.Set n text) = after_set content n text
after_change content (change.Kill n) = after_kill content n
after_change content (change.Put n nodes) = after_put content n nodes

-- what a list of changes leaves, each on what those before it leave
abbrev pub after_changes : Content → List Change → Content
after_changes content changes = fold after_change content changes

-- whether a change would give a name more subscripts than it can have
abbrev pub goes_too_deep : Change → Bool
goes_too_deep (change.Set n text) = false
goes_too_deep (change.Kill n) = false
goes_too_deep (change.Put n nodes) = is_too_deep n nodes

-- whether a change is to a name of this name's word, and whether one of a list is
abbrev pub is_to : Change → Name → Bool
is_to (change.Set n text) m = same_word n m
is_to (change.Kill n) m = same_word n m
is_to (change.Put n nodes) m = same_word n m

abbrev pub are_to : List Change → Name → Bool
are_to changes m = list_any (λ c. is_to c m) changes
