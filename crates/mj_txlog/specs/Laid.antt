-- A transaction's own writes, as they lie over the globals: what the globals would be asked is answered without looking at each of the writes.
use Rattle.std.specs.Prelude.{◌≡◌, ℕ, zero, suc, Bool, true, false, not, nat_eq, cond, ◌&&◌, ◌||◌, ◌+◌, List, [], ◌∷◌, length, take, Option, Some, None}
use Rattle.std.specs.Option.{is_some, option_or}
use Rattle.std.specs.declared.cmp.Ordering.{Ordering}
use Rattle.std.specs.Ordering.{is_lt}
use Rattle.mj_subs.specs.Name.{Name}
use Rattle.mj_store.specs.Questions.{Content, with_subscripts, value_at, data_at, order_at}
use Rattle.mj_store.specs.Changes.{after_set, followed_by}
use Rattle.mj_store.specs.Runs.{after_access}
use Rattle.mj_store.specs.declared.store.Direction.{Direction}
use Rattle.mj_store.specs.declared.access.Access.{Access}
use Rattle.mj_store.specs.declared.access.Access.TheVariants as access
use Rattle.mj_txlog.specs.declared.entry.Entry.{Entry}
use Rattle.mj_txlog.specs.declared.entry.Entry.TheVariants as entry
use Rattle.mj_txlog.specs.Accesses.{Accesses, seen}

-- the texts that were given and still stand, and the names that went at some time, each with an empty text
pub record Laid : Type 0 where
  pub over : Content
  pub gone : Content

-- whether the name went, or one above it: one of those with fewer subscripts than that
abbrev pub went_before : Content → Name → ℕ → Bool
went_before gone n zero = false
went_before gone n (suc k) = went_before gone n k || is_some (value_at gone (with_subscripts n (take k n.subscripts)))

-- one of all of them
abbrev pub went : Content → Name → Bool
went gone n = went_before gone n (suc (length n.subscripts))

-- the names that went, after an access
abbrev pub gone_after : Access → Content → Content
gone_after (access.Kill n) gone = after_set gone n []
gone_after _ gone = gone

-- the own writes after an access, and after an entry of the list
abbrev pub laid_after : Access → Laid → Laid
laid_after a o = record { over = after_access a o.over; gone = gone_after a o.gone }

abbrev pub laid_more : Laid → Entry → Laid
laid_more o (entry.Access a r) = laid_after a o
laid_more o (entry.Unlock u) = o

-- the text of a name, where this is its text in the globals
abbrev pub text_over : Laid → Name → Option (List ℕ) → Option (List ℕ)
text_over o n below = option_or (value_at o.over n) (cond (went o.gone n) None below)

-- the own writes are those of these accesses: over whatever globals, each name has the text that is seen
abbrev pub IsLaid : Laid → Accesses → Type 0
IsLaid o accesses = (n : Name) (globals : Content) → value_at (seen globals accesses) n ≡ text_over o n (value_at globals n)

-- a content, and besides it the text of a name, where that didn't go
abbrev pub with_kept : Laid → Content → Name → List ℕ → Content
with_kept o content n text = cond (went o.gone n) content (after_set content n text)

-- this comes next of what is seen below f, from a subscript on in a direction, whatever accesses made the own writes
abbrev pub IsSeenNext : Content → Laid → Name → List ℕ → Direction → Option (List ℕ) → Type 0
IsSeenNext globals o f s way next = (es : Accesses) → IsLaid o es → next ≡ order_at (seen globals es) (followed_by f (s ∷ [])) way

-- something is seen at the name or below it, whatever accesses made the own writes
abbrev pub IsSeen : Content → Laid → Name → Type 0
IsSeen globals o n = (es : Accesses) → IsLaid o es → not (nat_eq (data_at (seen globals es) n) 0) ≡ true

-- no own write is to the name or to one below it
abbrev pub is_clear : Laid → Name → Bool
is_clear o n = nat_eq (data_at o.over n) 0 && nat_eq (data_at o.gone n) 0

-- whether $DATA says that a text stands at the name, and that one stands below it
abbrev pub says_here : ℕ → Bool
says_here d = nat_eq d 1 || nat_eq d 11

abbrev pub says_below : ℕ → Bool
says_below d = nat_eq d 10 || nat_eq d 11

-- $DATA of a name that has texts of two contents
abbrev pub data_either : ℕ → ℕ → ℕ
data_either a b = cond (says_here a || says_here b) 1 0 + cond (says_below a || says_below b) 10 0

-- one stands before another in an order, if that is there
abbrev pub is_before : {K : Type 0} → (K → K → Ordering) → K → Option K → Bool
is_before R x None = true
is_before R x (Some y) = is_lt (R x y)
