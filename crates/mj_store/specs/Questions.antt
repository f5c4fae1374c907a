-- What is asked of a content: a list of names, each with the text that it has.
use Rattle.std.specs.Prelude.{ℕ, Bool, cond, ◌&&◌, List, [], ◌∷◌, Option, None}
use Rattle.std.specs.Option.{option_map}
use Rattle.std.specs.List.{filter_map}
use Rattle.std.specs.Str.{bytes_eq}
use Rattle.std.specs.FinMap.{find}
use Rattle.mj_subs.specs.Name.{Name, kinds_eq}
use Rattle.mj_subs.specs.Collation.{subscript_cmp, name_cmp}
use Rattle.mj_store.specs.Nodes.{is_empty, but_last, last_of, after_front, next_past, next_after, data_of, first_subscripts}
use Rattle.mj_store.specs.declared.store.Direction.{Direction}

-- names with their texts. That of a store is in the order of names, each name once
abbrev pub Content : Type 0
Content = List (Name × List ℕ)

-- lists of subscripts with their texts: what stands at a name and below it, each by the subscripts that follow the name's
abbrev pub Subtree : Type 0
Subtree = List (List (List ℕ) × List ℕ)

-- of one kind and word
abbrev pub same_word : Name → Name → Bool
same_word m n = kinds_eq m.global n.global && bytes_eq m.word n.word

-- the name with these subscripts in place of its own
abbrev pub with_subscripts : Name → List (List ℕ) → Name
with_subscripts n p = record { global = n.global; word = n.word; subscripts = p }

-- the subscripts that a name has after those of n, where it is n or below it
abbrev pub rest_of : Name → Name → Option (List (List ℕ))
rest_of n m = cond (same_word n m) (after_front subscript_cmp n.subscripts m.subscripts) None

-- the text of a name (7.1.2: the value of a glvn)
abbrev pub value_at : Content → Name → Option (List ℕ)
value_at content n = find name_cmp n content

-- what stands at a name and below it (8.2.13: the source of MERGE)
abbrev pub subtree_at : Content → Name → Subtree
subtree_at content n = filter_map (λ e. option_map (λ l. (l, e.1)) (rest_of n e.0)) content

-- $DATA (7.1.5.3): 0, 1, 10 or 11
abbrev pub data_at : Content → Name → ℕ
data_at content n = data_of (subtree_at content n)

-- the next subscript after this one with which a list of the subtree begins, in this direction; after the empty one comes the first
abbrev pub next_from : Direction → List ℕ → Subtree → Option (List ℕ)
next_from way last nodes = next_past subscript_cmp way (is_empty last) last (first_subscripts nodes)

-- $ORDER (7.1.5.11), for the subscripts p of a name of this kind and word: from the last of p, the next subscript at that place under
-- which a text stands, in this direction. From the empty subscript it is the first one. A name without subscripts has none (this
-- profile)
abbrev pub order_under : Content → Name → List (List ℕ) → Direction → Option (List ℕ)
order_under content n [] way = None
order_under content n (s ∷ p) way =
    next_past subscript_cmp way (is_empty (last_of s p)) (last_of s p) (first_subscripts (subtree_at content (with_subscripts n (but_last s p))))

-- $ORDER of a name
abbrev pub order_at : Content → Name → Direction → Option (List ℕ)
order_at content n way = order_under content n n.subscripts way

-- $QUERY (7.1.5.14): the least name of that kind and word after n that has a text
abbrev pub query_at : Content → Name → Option Name
query_at content n = option_map (with_subscripts n) (next_after subscript_cmp n.subscripts (subtree_at content (with_subscripts n [])))
