-- How a content changes.
use Rattle.std.specs.Prelude.{◌≡◌, ◌<◌, ◌≤◌, ℕ, ◌+◌, Bool, List, ◌++◌, length, nat_lt, slice_set, slice_index_or}
use Rattle.std.specs.Option.{is_none}
use Rattle.std.specs.List.{filter, fold, insert, list_any}
use Rattle.std.specs.FinMap.{put}
use Rattle.mj_subs.specs.Name.{Name}
use Rattle.mj_subs.specs.Collation.{name_cmp}
use Rattle.mj_store.specs.Questions.{Content, Subtree, with_subscripts, rest_of}
use Rattle.mj_subs.specs.declared.subs.TheConstants.{SUBSCRIPTS_LIMIT}

-- SET (8.2.18): the name has this text, in its place
abbrev pub after_set : Content → Name → List ℕ → Content
after_set content n text = put name_cmp n text content

-- the name stands at this place: SET gives the entry there its text
abbrev pub IsPlaceOf : Name → Content → ℕ → Type 0
IsPlaceOf n content i =
    (i < length content) × ((text : List ℕ) (d : Name × List ℕ) → put name_cmp n text content ≡ slice_set content i ((slice_index_or content i d).0, text))

-- the name stands nowhere, and would go to this place: SET inserts it there with its text
abbrev pub IsGapFor : Name → Content → ℕ → Type 0
IsGapFor n content i = (i ≤ length content) × ((text : List ℕ) → put name_cmp n text content ≡ insert content i (n, text))

-- KILL (8.2.11): the name and every name below it are gone
abbrev pub after_kill : Content → Name → Content
after_kill content n = filter (λ e. is_none (rest_of n e.0)) content

-- the name followed by more subscripts
abbrev pub followed_by : Name → List (List ℕ) → Name
followed_by n p = with_subscripts n (n.subscripts ++ p)

-- MERGE (8.2.13): n followed by each list of the subtree has the list's text, one after the other. Nothing goes
abbrev pub after_put : Content → Name → Subtree → Content
after_put content n nodes = fold (λ c e. after_set c (followed_by n e.0) e.1) content nodes

-- whether that would give a name more subscripts than it can have
abbrev pub is_too_deep : Name → Subtree → Bool
is_too_deep n nodes = list_any (λ e. nat_lt SUBSCRIPTS_LIMIT (length n.subscripts + length e.0)) nodes
