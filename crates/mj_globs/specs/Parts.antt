-- A list of changes in two parts: the texts that it gives, and the names that it takes.
use Rattle.std.specs.Prelude.{Bool, true, false, not, nat_eq, List, [], ◌∷◌, ◌++◌, None, if◌then◌else◌}
use Rattle.std.specs.List.{fold, list_any}
use Rattle.std.specs.Option.{is_some, is_none}
use Rattle.mj_subs.specs.Name.{Name}
use Rattle.mj_subs.specs.Collation.{name_cmp}
use Rattle.mj_store.specs.Questions.{Content, Subtree, value_at, data_at, rest_of, subtree_at, same_word}
use Rattle.mj_store.specs.Changes.{after_set, after_kill, after_put, followed_by}
use Rattle.mj_tree.specs.Undo.{restored}
use Rattle.mj_globs.specs.declared.change.Change.{Change}
use Rattle.mj_globs.specs.declared.change.Change.TheVariants as change

-- what a change leaves that takes no name
abbrev pub changed_without_name : Content → Change → Content
changed_without_name content (change.Set n text) = after_set content n text
changed_without_name content (change.Kill n) = content
changed_without_name content (change.Put n nodes) = after_put content n nodes

-- what a change leaves that gives no text
abbrev pub taken : Content → Change → Content
taken content (change.Set n text) = content
taken content (change.Kill n) = after_kill content n
taken content (change.Put n nodes) = content

abbrev pub all_given : Content → List Change → Content
all_given content changes = fold changed_without_name content changes

abbrev pub all_taken : Content → List Change → Content
all_taken content changes = fold taken content changes

-- whether a change takes the name m
abbrev pub takes : Name → Change → Bool
takes m (change.Set n text) = false
takes m (change.Kill n) = is_some (rest_of n m)
takes m (change.Put n nodes) = false

-- whether a change takes names
abbrev pub is_kill : Change → Bool
is_kill (change.Set n text) = false
is_kill (change.Kill n) = true
is_kill (change.Put n nodes) = false

-- whether a change takes a name at which, or below which, a text stands
abbrev pub is_rewritten : Content → Change → Bool
is_rewritten content (change.Set n text) = false
is_rewritten content (change.Kill n) = not (nat_eq (data_at content n) 0)
is_rewritten content (change.Put n nodes) = false

-- the names that the changes take, each once
abbrev pub with_kill : Content → Change → Content
with_kill kills (change.Set n text) = kills
with_kill kills (change.Kill n) = after_set kills n []
with_kill kills (change.Put n nodes) = kills

abbrev pub all_kills : List Change → Content
all_kills changes = fold with_kill [] changes

-- names with one more, if it has no text here
abbrev pub with_ungiven : Content → List Name → Name → List Name
with_ungiven alone names n = if is_none (value_at alone n) then names ++ n ∷ [] else names

-- names with those of a subtree at n that have no text here
abbrev pub with_below : Content → Name → List Name → Subtree → List Name
with_below alone n names nodes = fold (λ ns e. with_ungiven alone ns (followed_by n e.0)) names nodes

-- names with those at and below each of the names that go that have a text, and none here
abbrev pub with_all_below : Content → Content → List Name → Content → List Name
with_all_below alone content names kills = fold (λ ns k. with_below alone k.0 ns (subtree_at content k.0)) names kills

-- what is left when these names are taken, each alone
abbrev pub without_each : Content → List Name → Content
without_each content names = fold (λ c n. restored name_cmp n None c) content names

-- whether a name has the word of one of these
abbrev pub are_of : List Name → Name → Bool
are_of names m = list_any (λ n. same_word n m) names

-- What the changes leave of what they give. Alone is what they leave where nothing was: a name that they take and that has a text there is given again.
abbrev pub taken_but_given : Content → Content → List Change → Content
taken_but_given alone content changes =
    if list_any (is_rewritten alone) changes then without_each content (with_all_below alone content [] (all_kills changes)) else all_taken content changes
