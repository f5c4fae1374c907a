-- Looks at a name: a job reads its text, or is told what can't be so where the name has a text.
use Rattle.std.specs.Prelude.{◌≡◌, ℕ, ◌==◌, Bool, true, false, ◌&&◌, ◌||◌, List, [], ◌∷◌, Option, Some, None}
use Rattle.std.specs.Option.{option_map}
use Rattle.std.specs.Ordering.{is_lt}
use Rattle.mj_subs.specs.Name.{Name, names_eq}
use Rattle.mj_subs.specs.Collation.{subscript_cmp, subscripts_cmp}
use Rattle.mj_store.specs.declared.access.Access.{Access}
use Rattle.mj_store.specs.declared.access.Access.TheVariants as accesses
use Rattle.mj_store.specs.declared.access.Answer.{Answer}
use Rattle.mj_store.specs.declared.access.Answer.TheVariants as answers
use Rattle.mj_store.specs.declared.store.Direction.{Direction}
use Rattle.mj_store.specs.Nodes.{along, is_empty, but_last, last_of}
use Rattle.mj_store.specs.Questions.{Content, same_word, with_subscripts, rest_of, value_at}
use Rattle.mj_store.specs.Runs.{answer_of}
use Rattle.mj_ask.specs.declared.ask.Ask.{Ask}
use Rattle.mj_ask.specs.declared.ask.Ask.TheVariants as asks
use Rattle.mj_ask.specs.declared.ask.SharedAsk.TheVariants as shared_asks
use Rattle.mj_ask.specs.declared.ask.Reply.{Reply}
use Rattle.mj_ask.specs.declared.ask.Reply.TheVariants as replies
use Rattle.mj_ask.specs.declared.noted.Noted.{Noted}
use Rattle.mj_txlog.specs.Laid.{is_before}

-- ---- what leaves a name out

-- A number of $DATA leaves out a name, which has these subscripts behind those of the name that was asked for, if it has that one in front: the ones are 0 where
-- it is that name itself, the tens where it is one below it.
abbrev pub data_leaves_out : Option (List (List ℕ)) → ℕ → Bool
data_leaves_out None told = false
data_leaves_out (Some []) told = (told == 0) || (told == 10)
data_leaves_out (Some (t ∷ rest)) told = (told == 0) || (told == 1)

-- a subscript stands past another in a direction; past the empty one stands each
abbrev pub stands_past : Direction → List ℕ → List ℕ → Bool
stands_past way last t = is_empty last || is_lt (along way subscript_cmp last t)

-- A next subscript of $ORDER leaves out a name, which has these subscripts at the place that was looked along and behind it: it is passed over there, since it
-- stands past the one that was asked for, and before the next one, if there is one.
abbrev pub next_leaves_out : Direction → List ℕ → Option (List (List ℕ)) → Option (List ℕ) → Bool
next_leaves_out way last None next = false
next_leaves_out way last (Some []) next = false
next_leaves_out way last (Some (t ∷ rest)) next = stands_past way last t && is_before (along way subscript_cmp) t next

-- the same for the name that was asked for by its subscripts
abbrev pub order_leaves_out : Name → Name → List (List ℕ) → Direction → Option (List ℕ) → Bool
order_leaves_out n m [] way next = false
order_leaves_out n m (s ∷ p) way next = next_leaves_out way (last_of s p) (rest_of (with_subscripts m (but_last s p)) n) next

-- a name stands at the place that $ORDER looks along, or below it: so there only may the answer tell of it
abbrev pub has_more : Option (List (List ℕ)) → Bool
has_more None = false
has_more (Some []) = false
has_more (Some (t ∷ rest)) = true

abbrev pub stands_along : Name → Name → List (List ℕ) → Bool
stands_along n m [] = false
stands_along n m (s ∷ p) = has_more (rest_of (with_subscripts m (but_last s p)) n)

-- A next name of $QUERY leaves out a name of the word that was asked for: it is passed over by its subscripts.
abbrev pub query_leaves_out : Name → Name → Option Name → Bool
query_leaves_out n m next =
    same_word m n && is_lt (subscripts_cmp m.subscripts n.subscripts) && is_before subscripts_cmp n.subscripts (option_map (λ x. x.subscripts) next)

-- ---- looks

-- An access that is answered so is a look at a name: its text is the answer, or the answer leaves it out.
abbrev pub is_look : Name → Access → Answer → Bool
is_look n (accesses.Value m) (answers.Value text) = names_eq m n
is_look n (accesses.Data m) (answers.Data told) = data_leaves_out (rest_of m n) told
is_look n (accesses.Order m way) (answers.Order next) = order_leaves_out n m m.subscripts way next
is_look n (accesses.Query m) (answers.Query next) = query_leaves_out n m next
is_look n _ _ = false

-- Where a name has a text, an access that is answered so is answered that text. So what else it is answered can't be so there.
abbrev pub Tells : Name → Access → Answer → Type 0
Tells n a v = (globals : Content) (text : List ℕ) → value_at globals n ≡ Some text → answer_of a globals ≡ v → v ≡ answers.Value (Some text)

-- each look tells so of its name
abbrev pub LooksTell : Type 0
LooksTell = (n : Name) (a : Access) (v : Answer) → is_look n a v ≡ true → Tells n a v

-- an event is one
abbrev pub looks : Name → Ask → Reply → Bool
looks n (asks.Shared (shared_asks.Access a)) (replies.Answer v) = is_look n a v
looks n _ _ = false

-- whether a job looks at a name at a place
abbrev pub is_look_of : ℕ → Name → Option Noted → Bool
is_look_of job n None = false
is_look_of job n (Some e) = (e.job == job) && looks n e.ask e.reply
