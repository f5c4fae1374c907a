-- The first of a word's names that has a text and passes a test.
use Rattle.std.specs.Prelude.{◌≡◌, ℕ, Bool, false, not, ◌&&◌, List, [], map, Option, Some, None}
use Rattle.std.specs.List.{filter}
use Rattle.std.specs.Option.{is_some, is_none, option_map}
use Rattle.std.specs.Ordering.{is_lt}
use Rattle.std.specs.Cmp.Lexicographic.{slice_cmp}
use Rattle.mj_subs.specs.Name.{Name}
use Rattle.mj_subs.specs.Collation.{subscript_cmp}
use Rattle.mj_store.specs.Nodes.{is_empty, after_front, least}
use Rattle.mj_store.specs.Questions.{Content, with_subscripts, subtree_at}
use Rattle.mj_txlog.specs.Accesses.{Accesses, seen}
use Rattle.mj_txlog.specs.Laid.{Laid, IsLaid}

-- the first of the names of n's kind and word that have a text, of those whose subscripts pass the test
abbrev pub first_in : Content → Name → (List (List ℕ) → Bool) → Option Name
first_in content n test =
    option_map (with_subscripts n) (least (slice_cmp subscript_cmp) (filter test (map (λ e. e.0) (subtree_at content (with_subscripts n [])))))

-- this is the first of what is seen, whatever accesses made the own writes
abbrev pub IsSeenFirst : Content → Laid → Name → (List (List ℕ) → Bool) → Option Name → Type 0
IsSeenFirst globals o n test next = (es : Accesses) → IsLaid o es → next ≡ first_in (seen globals es) n test

-- whether something follows, if that is there
abbrev pub is_filled : Option (List (List ℕ)) → Bool
is_filled None = false
is_filled (Some l) = not (is_empty l)

-- whether the second subscripts stand at the first or below them; below them alone; and past all of these
abbrev pub is_within : List (List ℕ) → List (List ℕ) → Bool
is_within p q = is_some (after_front subscript_cmp p q)

abbrev pub is_below : List (List ℕ) → List (List ℕ) → Bool
is_below p q = is_filled (after_front subscript_cmp p q)

abbrev pub is_beyond : List (List ℕ) → List (List ℕ) → Bool
is_beyond p q = is_lt (slice_cmp subscript_cmp p q) && is_none (after_front subscript_cmp p q)
