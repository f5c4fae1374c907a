-- The questions and the changes on small contents.
use Rattle.std.proofs.Common.{◌≡◌, ℕ, true, List, [], ◌∷◌, Option, Some, None, refl}
use Rattle.std.specs.Prelude.{codes}
use Rattle.mj_subs.specs.Name.{Name}
use Rattle.mj_store.specs.declared.store.Direction.TheVariants.{Forward, Backward}
use Rattle.mj_store.specs.Questions.{Content, value_at, data_at, order_at, query_at, subtree_at}
use Rattle.mj_store.specs.Changes.{after_set, after_kill, after_put}

-- a global of the word w with subscripts p
abbrev global : List ℕ → List (List ℕ) → Name
global w p = record { global = true; word = w; subscripts = p }

abbrev a : List (List ℕ) → Name
a p = global (codes "A") p

abbrev b : List (List ℕ) → Name
b p = global (codes "B") p

-- SET ^A(1)=1,^A(2,3)=2 KILL ^A(1)
abbrev killed : Content
killed = after_kill (after_set (after_set [] (a (codes "1" ∷ [])) (codes "1")) (a (codes "2" ∷ codes "3" ∷ [])) (codes "2")) (a (codes "1" ∷ []))

killed_data : data_at killed (a []) ∷ data_at killed (a (codes "2" ∷ [])) ∷ data_at killed (a (codes "2" ∷ codes "3" ∷ [])) ∷ data_at killed (a (codes "1" ∷ [])) ∷ [] ≡ 10 ∷ 10 ∷ 1 ∷ 0 ∷ []
killed_data = refl

-- SET ^A(1)="",^A("x""y",2)=3
abbrev quoted : Content
quoted = after_set (after_set [] (a (codes "1" ∷ [])) []) (a (codes "x\"y" ∷ codes "2" ∷ [])) (codes "3")

quoted_first : query_at quoted (a ([] ∷ [])) ≡ Some (a (codes "1" ∷ []))
quoted_first = refl

quoted_second : query_at quoted (a (codes "1" ∷ [])) ≡ Some (a (codes "x\"y" ∷ codes "2" ∷ []))
quoted_second = refl

quoted_end : query_at quoted (a (codes "x\"y" ∷ codes "2" ∷ [])) ≡ None
quoted_end = refl

-- ^A(1)=1, ^A(1,2)=2, ^B(9)=9
abbrev before_merge : Content
before_merge = (a (codes "1" ∷ []), codes "1") ∷ (a (codes "1" ∷ codes "2" ∷ []), codes "2") ∷ (b (codes "9" ∷ []), codes "9") ∷ []

-- MERGE ^B=^A(1)
merged : after_put before_merge (b []) (subtree_at before_merge (a (codes "1" ∷ [])))
    ≡ (a (codes "1" ∷ []), codes "1") ∷ (a (codes "1" ∷ codes "2" ∷ []), codes "2") ∷ (b [], codes "1") ∷ (b (codes "2" ∷ []), codes "2") ∷ (b (codes "9" ∷ []), codes "9") ∷ []
merged = refl

-- a node with a value and descendants
both : data_at before_merge (a (codes "1" ∷ [])) ≡ 11
both = refl

-- SET (^A(10),^A(9),^A(-1),^A("01"),^A("B"),^A("b"))=""
abbrev mixed : Content
mixed =
    after_set (after_set (after_set (after_set (after_set (after_set [] (a (codes "10" ∷ [])) []) (a (codes "9" ∷ [])) []) (a (codes "-1" ∷ [])) []) (a (codes "01" ∷ [])) []) (a (codes "B" ∷ [])) [])
    (a (codes "b" ∷ [])) []

abbrev forth : List ℕ → Option (List ℕ)
forth s = order_at mixed (a (s ∷ [])) Forward

abbrev back : List ℕ → Option (List ℕ)
back s = order_at mixed (a (s ∷ [])) Backward

walked : forth [] ∷ forth (codes "-1") ∷ forth (codes "9") ∷ forth (codes "10") ∷ forth (codes "01") ∷ forth (codes "B") ∷ forth (codes "b") ∷ []
    ≡ Some (codes "-1") ∷ Some (codes "9") ∷ Some (codes "10") ∷ Some (codes "01") ∷ Some (codes "B") ∷ Some (codes "b") ∷ None ∷ []
walked = refl

-- from a subscript that isn't there, and from the end back to the start
walked_back : back [] ∷ back (codes "b") ∷ back (codes "a") ∷ back (codes "9") ∷ back (codes "-1") ∷ [] ≡ Some (codes "b") ∷ Some (codes "B") ∷ Some (codes "B") ∷ Some (codes "-1") ∷ None ∷ []
walked_back = refl

-- a subscript with descendants alone counts; deeper ones don't show
deeper : order_at killed (a ([] ∷ [])) Forward ∷ order_at killed (a (codes "2" ∷ [] ∷ [])) Forward ∷ order_at killed (a (codes "2" ∷ [])) Forward ∷ order_at killed (a []) Forward ∷ []
    ≡ Some (codes "2") ∷ Some (codes "3") ∷ None ∷ None ∷ []
deeper = refl

-- the value of a name, of one that is above it, and of one of another word
values : value_at quoted (a (codes "1" ∷ [])) ∷ value_at quoted (a []) ∷ value_at quoted (b (codes "1" ∷ [])) ∷ [] ≡ Some [] ∷ None ∷ None ∷ []
values = refl

-- KILL takes the name and its descendants, and no sibling
siblings : after_kill ((a (codes "1" ∷ []), codes "x") ∷ (a (codes "1" ∷ codes "5" ∷ []), codes "y") ∷ (a (codes "10" ∷ []), codes "z") ∷ []) (a (codes "1" ∷ []))
    ≡ (a (codes "10" ∷ []), codes "z") ∷ []
siblings = refl
