-- A node and all places of its children.
use Rattle.std.proofs.Common.{◌≡◌, ◌↔◌, ℕ, ◌-◌, ◌<◌, ◌≤◌, Bool, true, false, cond, not, List, [], ◌∷◌, ◌++◌, length, take, drop, get_or, Option, Some, None, Box, Global, refl, sym, ap, ◌∙◌, subst, arith, Result, Ok, Err, OnOk, OnErr}
use Rattle.std.specs.Prelude.{T, IsTrue}
use Rattle.std.specs.declared.cmp.Ordering.TheVariants.{Less, Equal, Greater}
use Rattle.std.specs.Ordering.{match_ordering}
use Rattle.std.specs.Cmp.Lexicographic.{slice_cmp}
use Rattle.std.specs.FinMap.{is_sorted, put}
use Rattle.std.specs.Option.{is_some}
use Rattle.std.specs.Map.{lookup}
use Rattle.std.specs.BTreeMap.{is_at, insert_entry}
use Rattle.mj_subs.specs.Collation.{subscript_cmp}
use Rattle.mj_subs.specs.Laws.Total.{subscript_cmp_total}
use Rattle.mj_subs.specs.Laws.Ties.{subscript_cmp-IsAntisymmetric}
use Rattle.mj_store.specs.Nodes.{data_of, subtree}
use Rattle.mj_store.specs.Questions.{Subtree}
use Rattle.mj_tree.specs.declared.children.Children.{Children}
use Rattle.mj_tree.specs.Nest.{own, below, nodes_of}
use Rattle.mj_tree.specs.Rows.{live, IsOrdered, IsSound, Adds, all_of, places, AreSound}
use Rattle.mj_tree.proofs.Nest.{data_leaf, data_told, subtree_step}
use Rattle.mj_tree.proofs.Kills.{some_node}
use Rattle.mj_tree.proofs.Places.{below-live, filled-live, some_below, sorted-live, none-live, same_live}
use Rattle.mj_tree.proofs.Puts.{put_added, filled_put}
use Rattle.mj_tree.proofs.Undo.{restore_own}
use Rattle.mj_tree.specs.Undo.{restored}

-- the places of a node's children rise
pub places_rise : (cs : Option (Box Children Global)) → AreSound cs → T (is_sorted subscript_cmp (places cs))
places_rise None h = tt
places_rise (Some c) h = h.0.0.rises

pub nodes_below : (c : Children) → IsSound c → 0 < length (all_of c) → 0 < length (below (all_of c))
nodes_below c s some = some_below c.row.items c.others.entries s.1 s.0.filled some

-- sound children of which there are some
pub some_left : (c : Children) → 0 < length (below (all_of c)) → 0 < length (all_of c)
some_left c h = by (all_of c) h
  where
    by : (ks : List (List ℕ × Subtree)) → 0 < length (below ks) → 0 < length ks
    by [] h = absurd (omega arith)
    by (k ∷ ks) h = omega arith

data_below : (text : Option (List ℕ)) (ks : List (List ℕ × Subtree)) → 0 < length (below ks) → data_of (own text ++ below ks) ≡ cond (is_some text) 11 10
data_below text ks h =
    ap (λ (nodes : Subtree). data_of (own text ++ nodes)) (sym (below-live ks))
    ∙ data_told subscript_cmp text (live ks) (λ e. none (live ks) e (subst (λ (nodes : Subtree). 0 < length nodes) (sym (below-live ks)) h)) (filled-live ks)
  where
    none : (es : List (List ℕ × Subtree)) → length es ≡ 0 → 0 < length (below es) → ⊥
    none [] e h = omega arith
    none (k ∷ es) e h = omega arith

-- what a node holds, by whether it has a text and children
pub data_by : (text : Option (List ℕ)) (cs : Option (Box Children Global)) → AreSound cs → data_of (own text ++ below (places cs)) ≡ cond (is_some cs) (cond (is_some text) 11 10)
    (cond (is_some text) 1 0)
data_by None None h = refl
data_by (Some text) None h = refl
data_by text (Some c) h = data_below text (all_of c.value) (nodes_below c.value h.0 h.1)

-- it is empty where it has neither
pub empty_by : (text : Option (List ℕ)) (cs : Option (Box Children Global)) (none : Bool) → AreSound cs → is_some text ≡ false → is_some cs ≡ not none
    → IsTrue none ↔ (own text ++ below (places cs) ≡ [])
empty_by (Some text) cs none h e f = absurd cc
empty_by None None true h e f = (λ _. refl, λ _. refl)
empty_by None None false h e f = absurd cc
empty_by None (Some c) true h e f = absurd cc
empty_by None (Some c) false h e f = (
  λ t. absurd cc,
  λ is.
      let some = nodes_below c.value h.0 h.1 in
      let none : length (below (all_of c.value)) ≡ 0 = ap (λ (nodes : Subtree). length nodes) is in absurd (omega arith),
)

-- the subtree at a path that a pattern took apart, by the child at its first subscript
pub subtree_in : (path : List (List ℕ)) (s : List ℕ) → 1 ≤ length path → s ≡ get_or path 0 s → (node : Subtree) (text : Option (List ℕ)) (cs : Option (Box Children Global))
    → own text ++ below (places cs) ≡ node
    → AreSound cs → (child : Option Subtree) → child ≡ lookup (is_at (subscript_cmp s)) (places cs) → subtree subscript_cmp path node ≡ subtree subscript_cmp
    (take (length path - 1) (drop 1 path)) (nodes_of child)
subtree_in path s le is node text cs view h child found =
    subtree_step subscript_cmp subscript_cmp_total path s le is node text (places cs) view (places_rise cs h)
    ∙ ap (λ (c : Option Subtree). subtree subscript_cmp (take (length path - 1) (drop 1 path)) (nodes_of c)) (sym found)

-- a text that is put into a child that is added
pub put_by_adding : {A E : Type 0} (r : Result A E) (old new : Children) (s : List ℕ) (p : List (List ℕ)) (v : List ℕ) (n : Subtree) (text : Option (List ℕ)) → IsSound old
    → lookup (is_at (subscript_cmp s)) (all_of old) ≡ None → n ≡ put (slice_cmp subscript_cmp) p v [] → Adds old new s n r
    → OnOk r (own text ++ below (all_of new) ≡ put (slice_cmp subscript_cmp) (s ∷ p) v (own text ++ below (all_of old)))
put_by_adding (Err e) old new s p v n text o none fresh a = tt
put_by_adding (Ok x) old new s p v n text o none fresh a =
    ap (λ (nodes : Subtree). own text ++ nodes) (sym (below-live (all_of new)))
    ∙ put_added subscript_cmp subscript_cmp_total (live (all_of old)) (live (all_of new)) s p v n a.ok fresh (sorted-live subscript_cmp (all_of old) o.0.rises) subscript_cmp-IsAntisymmetric text
    (none-live subscript_cmp s (all_of old) none)
    ∙ ap (λ (nodes : Subtree). put (slice_cmp subscript_cmp) (s ∷ p) v (own text ++ nodes)) (below-live (all_of old))

pub same_by_adding : {A E : Type 0} (r : Result A E) (old new : Children) (s : List ℕ) (n : Subtree) (text : Option (List ℕ)) → Adds old new s n r
    → OnErr r (own text ++ below (all_of new) ≡ own text ++ below (all_of old))
same_by_adding (Ok x) old new s n text a = tt
same_by_adding (Err e) old new s n text a = ap (λ (nodes : Subtree). own text ++ nodes) (same_live (all_of new) (all_of old) a.err)

-- one child alone holds its nodes
pub below_alone : (ks : List (List ℕ × Subtree)) (s : List ℕ) (n : Subtree) → live ks ≡ (s, n) ∷ [] → below ks ≡ below ((s, n) ∷ [])
below_alone ks s n e = sym (below-live ks) ∙ ap below e

-- children to which one was added, or nothing, still are some
pub some_after : {A E : Type 0} (r : Result A E) (old new : Children) (s : List ℕ) (n : Subtree) → IsSound old → 0 < length (all_of old) → 0 < length n → Adds old new s n r → 0 < length (all_of new)
some_after (Err e) old new s n o some f a =
    some_left new (subst (λ (nodes : Subtree). 0 < length nodes) (sym (same_live (all_of new) (all_of old) a.err)) (nodes_below old o some))
some_after (Ok x) old new s n o some f a = by (all_of new) (live (all_of old)) a.ok
  where
    inserted : (es : List (List ℕ × Subtree)) → 0 < length (insert_entry subscript_cmp es s n)
    inserted [] = omega arith
    inserted (e ∷ es) =
        elim (subscript_cmp s e.0) as (λ r. 0 < length (match_ordering r ((s, n) ∷ e ∷ es) ((e.0, n) ∷ es) (e ∷ insert_entry subscript_cmp es s n))) [
          | Less ↦ omega arith
          | Equal ↦ omega arith
          | Greater ↦ omega arith
        ]

    by : (ks es : List (List ℕ × Subtree)) → live ks ≡ insert_entry subscript_cmp es s n → 0 < length ks
    by [] es e = absurd (omega (arith, inserted es, ap (λ (xs : List (List ℕ × Subtree)). length xs) e))
    by (k ∷ ks) es e = omega arith

-- ---- a node whose children are gone through

pub seen : (text : Option (List ℕ)) (cs : Option (Box Children Global)) (c : Box Children Global) (node : Subtree) (ks : List (List ℕ × Subtree)) → own text ++ below (places cs) ≡ node → cs ≡ Some c
    → ks ≡ all_of c.value → own text ++ below ks ≡ node
seen text cs c node ks view is all = ap (λ (es : List (List ℕ × Subtree)). own text ++ below es) (all ∙ ap places (sym is)) ∙ view

-- one that has none is its own text
pub own_alone : (text : Option (List ℕ)) (cs : Option (Box Children Global)) (node : Subtree) → own text ++ below (places cs) ≡ node → cs ≡ None → own text ≡ node
own_alone text cs node view is = by text ∙ ap (λ (es : Option (Box Children Global)). own text ++ below (places es)) (sym is) ∙ view
  where
    by : (t : Option (List ℕ)) → own t ≡ own t ++ below (places None)
    by None = refl
    by (Some t) = refl

pub sound_in : (cs : Option (Box Children Global)) (c : Box Children Global) → AreSound cs → cs ≡ Some c → IsSound c.value × (0 < length (all_of c.value))
sound_in cs c h is = subst AreSound is h

-- the child at a subscript, where the children are those behind a reference
pub child_of : (s : List ℕ) (cs : Option (Box Children Global)) (c : Box Children Global) (d : Children) (r : Option Subtree) → r ≡ lookup (is_at (subscript_cmp s)) (all_of d)
    → d ≡ c.value → cs ≡ Some c
    → r ≡ lookup (is_at (subscript_cmp s)) (places cs)
child_of s cs c d r h e is = h ∙ ap (λ (ks : List (List ℕ × Subtree)). lookup (is_at (subscript_cmp s)) ks) (ap (λ (x : Children). all_of x) e ∙ ap places (sym is))

pub ordered_in : (cs : Option (Box Children Global)) (c : Box Children Global) (d : Children) → AreSound cs → cs ≡ Some c → d ≡ c.value → IsOrdered d.row.items d.others.entries
ordered_in cs c d h is e = let sound : IsSound c.value × (0 < length (all_of c.value)) = subst AreSound is h in subst (λ (x : Children). IsOrdered x.row.items x.others.entries) (sym e) sound.0.0

-- a node without a text of its own is its children
pub none_own : (text : Option (List ℕ)) → is_some text ≡ false → own {K = List ℕ} text ≡ []
none_own None e = refl
none_own (Some t) e = absurd cc

pub none_own_front : (text : Option (List ℕ)) (ks : List (List ℕ × Subtree)) → is_some text ≡ false → own text ++ below ks ≡ below ks
none_own_front None ks e = refl
none_own_front (Some t) ks e = absurd cc

-- a text that comes back in a node that has one
pub restore_text : (value text : Option (List ℕ)) (ks : List (List ℕ × Subtree)) → is_some text ≡ true → restored (slice_cmp subscript_cmp) [] value (own text ++ below ks) ≡ own value ++ below ks
restore_text value None ks e = absurd cc
restore_text value (Some t) ks e = restore_own subscript_cmp value t ks
