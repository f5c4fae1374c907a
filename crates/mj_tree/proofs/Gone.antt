-- A walk over all places of a node's children: where it begins, and what is left of it.
use Rattle.std.proofs.Common.{◌≡◌, ℕ, ◌<◌, List, [], ◌∷◌, ◌++◌, length, Option, Some, None, Box, Global, Result, Ok, Err, OnErr, refl, sym, ap, ◌∙◌, subst, arith}
use Rattle.std.specs.Map.{lookup}
use Rattle.std.specs.BTreeMap.{is_at}
use Rattle.mj_subs.specs.Collation.{subscript_cmp}
use Rattle.mj_store.specs.Questions.{Subtree}
use Rattle.mj_tree.specs.declared.children.Children.{Children}
use Rattle.mj_tree.specs.Nest.{own, below, behind, weight}
use Rattle.mj_tree.specs.Rows.{IsPlaceOf, IsSound, all_of, places, AreSound}
use Rattle.mj_tree.proofs.Places.{lookup_past}
use Rattle.mj_tree.proofs.Copies.{joined, behind-append, SameText, copied_whole}
use Rattle.mj_tree.proofs.Added.{all_same}
use Rattle.mj_tree.proofs.Lighter.{AreLighter, all_lighter}
use Rattle.mj_tree.proofs.Whole.{nodes_below, seen, sound_in}

append_none : {A : Type 0} (xs : List A) → xs ≡ xs ++ []
append_none [] = refl
append_none (x ∷ xs) = ap (λ ys. x ∷ ys) (append_none xs)

-- the places of a node's children, each of which weighs less than it
pub record AreOf (text : Option (List ℕ)) (node : Subtree) (ks : List (List ℕ × Subtree)) : Type 0 where
  pub view : own text ++ below ks ≡ node
  pub light : AreLighter (weight node) ks

pub places_of : (text : Option (List ℕ)) (cs : Option (Box Children Global)) (c : Box Children Global) (node : Subtree) (ks : List (List ℕ × Subtree)) → own text ++ below (places cs) ≡ node
    → AreSound cs
    → cs ≡ Some c → ks ≡ all_of c.value → AreOf text node ks
places_of text cs c node ks view h is all =
    let sound = sound_in cs c h is in
    let whole : own text ++ below ks ≡ node = seen text cs c node ks view is all in record {
      view = whole;
      light = all_lighter text ks node whole (subst (λ (es : List (List ℕ × Subtree)). 0 < length (below es)) (sym all) (nodes_below c.value sound.0 sound.1));
    }

-- the node's own text is gathered, and its children are left
pub begun : (front : List (List ℕ)) (before mid : Subtree) (text : Option (List ℕ)) (ks : List (List ℕ × Subtree)) (node : Subtree) → mid ≡ before ++ behind front (own text)
    → own text ++ below ks ≡ node → mid ++ behind front (below ks) ≡ before ++ behind front node
begun front before mid text ks node first view =
    ap (λ (xs : Subtree). xs ++ behind front (below ks)) first
    ∙ joined before (behind front (own text)) (behind front (below ks))
    ∙ ap (λ (xs : Subtree). before ++ xs) (sym (behind-append front (own text) (below ks)) ∙ ap (behind front) view)

-- no child is left
pub ended : (front : List (List ℕ)) (found total : Subtree) (ks : List (List ℕ × Subtree)) → found ++ behind front (below ks) ≡ total → ks ≡ [] → found ≡ total
ended front found total ks whole none = append_none found ∙ ap (λ (es : List (List ℕ × Subtree)). found ++ behind front (below es)) (sym none) ∙ whole

-- ---- children behind a reference

pub sound_behind : (cs : Option (Box Children Global)) (c : Box Children Global) (d : Children) → AreSound cs → cs ≡ Some c → d ≡ c.value → IsSound d × (0 < length (all_of d))
sound_behind cs c d h is e = subst (λ (x : Children). IsSound x × (0 < length (all_of x))) (sym e) (sound_in cs c h is)

pub place_behind : (s : List ℕ) (a b : Children) (at : ℕ) → a ≡ b → IsPlaceOf s a.row.items (Some at) → IsPlaceOf s b.row.items (Some at)
place_behind s a b at e h = subst (λ (x : Children). IsPlaceOf s x.row.items (Some at)) e h

pub none_behind : (s : List ℕ) (a b : Children) → a ≡ b → IsPlaceOf s a.row.items None → lookup (is_at (subscript_cmp s)) b.row.items ≡ None
none_behind s a b e h = subst (λ (x : Children). lookup (is_at (subscript_cmp s)) x.row.items ≡ None) e h

pub absent_behind : (s : List ℕ) (a b : Children) → a ≡ b → lookup (is_at (subscript_cmp s)) b.row.items ≡ None → lookup (is_at (subscript_cmp s)) b.others.entries ≡ None
    → lookup (is_at (subscript_cmp s)) (all_of a) ≡ None
absent_behind s a b e none absent =
    ap (λ (x : Children). lookup (is_at (subscript_cmp s)) (all_of x)) e ∙ lookup_past subscript_cmp s b.row.items b.others.entries none ∙ absent

pub on_err_any : {A E : Type 0} {P : Type 0} (r : Result A E) → P → OnErr r P
on_err_any (Ok x) h = tt
on_err_any (Err e) h = h

-- ---- a copy

pub copied_own : (text copy : Option (List ℕ)) (cs : Option (Box Children Global)) (node : Subtree) → SameText text copy → own text ++ below (places cs) ≡ node → cs ≡ None
    → own copy ++ below (places None) ≡ node
copied_own text copy cs node same view is =
    copied_whole {K = List ℕ} text copy [] [] [] same refl refl ∙ ap (λ (es : Option (Box Children Global)). own text ++ below (places es)) (sym is) ∙ view

pub copied_node : (text copy : Option (List ℕ)) (old new : Children) (node : Subtree) → SameText text copy → new.row.items ≡ old.row.items → new.others.entries ≡ old.others.entries
    → own text ++ below (all_of old) ≡ node → own copy ++ below (all_of new) ≡ node
copied_node text copy old new node same row others view =
    copied_whole text copy (all_of old) [] (all_of new) same (sym (append_none (all_of new)) ∙ all_same old new row others) refl ∙ view
