-- What NEW leaves and saves, and what undoing it gives, as a job's state has it.
use Rattle.std.proofs.Common.{◌≡◌, ℕ, ◌<◌, zero, suc, Bool, true, false, cond, not, ◌||◌, List, [], ◌∷◌, ◌++◌, length, map, Option, Some, None, Result, Ok, Err, OnOk, OnErr, refl, sym, ap, ◌∙◌, subst, arith}
use Rattle.std.specs.Prelude.{is_some}
use Rattle.std.specs.List.{filter, list_any}
use Rattle.std.specs.Str.{bytes_eq}
use Rattle.std.specs.Ordering.{is_eq}
use Rattle.std.specs.Map.{lookup}
use Rattle.std.specs.BTreeMap.{is_at}
use Rattle.std.proofs.lemmas.Map.Text.{is_eq-slice_cmp}
use Rattle.mj_store.specs.Questions.{Content, Subtree}
use Rattle.mj_globs.proofs.Groups.{W}
use Rattle.mj_semantics.specs.State.{Only, AllBut, Saved, covers, put_back}
use Rattle.mj_locals.specs.Held.{Held, with_now, after_new, after_undo}
use Rattle.mj_locals.specs.Groups.{Pairs, Group, newest, rest, spared_by, AreTreesOf, AreSorted}
use Rattle.mj_locals.specs.Kept.{named, words_of, seen, held_of, HavePlaces, AreOthers, AreCovered, CanBeUndone}
use Rattle.mj_locals.specs.Trees.{Trees, at, has_room, placed, added, word_at, all_spared, AreTrees, content}
use Rattle.mj_locals.specs.Hiding.{Grows, HidesOnly, HidesOthers, all_put, kept_of}
use Rattle.mj_locals.proofs.Places.{same_word, trees_pushed}
use Rattle.mj_locals.specs.Snapshots.{HaveRoom}
use Rattle.mj_locals.proofs.At.{at_all_put, at_nowhere, at_added, grows_on, grows_placed, grows_added, grows_length, grows_same, word_all_put, length_all_put}
use Rattle.mj_locals.proofs.Content.{same_at, picked_content, restored_content, at_spared}
use Rattle.mj_locals.proofs.HiddenWords.{named_grown, named_words, places_grown, have_room}

-- ---- words that come leave what is saved

pub undone_grown : (ts us : Trees) (gs : List Group) → Grows ts us → CanBeUndone ts gs → CanBeUndone us gs
undone_grown ts us [] g h = tt
undone_grown ts us (x ∷ xs) g h = (
  places_grown (length ts) (length us) x.1 (grows_length ts us g) h.0,
  subst (AreCovered x.0) (sym (named_grown ts us x.1 h.0 g)) h.1,
  undone_grown ts us xs g h.2,
)

pub seen_grown : (ts us : Trees) (gs : List Group) → Grows ts us → CanBeUndone ts gs → map (seen us) gs ≡ map (seen ts) gs
seen_grown ts us [] g h = refl
seen_grown ts us (x ∷ xs) g h =
    let same : named us x.1 ≡ named ts x.1 = named_grown ts us x.1 h.0 g in
    (λ i. record { words = words_of x.0 (same i); locals = content (same i) } ∷ seen_grown ts us xs g h.2 i)

pub changed : (ts us : Trees) (gs : List Group) (f : Content → Content) (h : Held) → CanBeUndone ts gs
    → Grows ts us → content us ≡ f (content ts) → held_of ts gs ≡ h → held_of us gs ≡ with_now (f h.now) h
changed ts us gs f h k g is same = (λ i. record { now = is i; saved = seen_grown ts us gs g k i }) ∙ ap (λ (x : Held). with_now (f x.now) x) same

pub unchanged : (ts us : Trees) (gs : List Group) (h : Held) → CanBeUndone ts gs → Grows ts us → content us ≡ content ts → held_of ts gs ≡ h → held_of us gs ≡ h
unchanged ts us gs h k g is same = (λ i. record { now = is i; saved = seen_grown ts us gs g k i }) ∙ same

trees_added : (ts : Trees) (w : List ℕ) → AreTrees ts → AreTrees (added ts w)
trees_added ts w h = elim (has_room ts w) as (λ b. AreTrees (cond b ts (ts ++ (w, []) ∷ []))) [ true ↦ h | false ↦ trees_pushed ts (w, []) h tt ]

-- a word that gets a row, and then other nodes or none
module _ (ts us : Trees) (w : List ℕ) (rises : AreTrees ts) (roomed : us ≡ added ts w) where
  pub roomed_trees : AreTrees us
  roomed_trees = subst AreTrees (sym roomed) (trees_added ts w rises)

  pub roomed_content : content us ≡ content ts
  roomed_content = same_at ts us rises roomed_trees (λ v. ap (λ (xs : Trees). at xs v) roomed ∙ at_added ts w v)

  pub roomed_grows : {A E : Type 0} (r : Result A E) (xs : Trees) (v : List ℕ) (n : Subtree) → OnOk r (xs ≡ placed us v n) → OnErr r (xs ≡ us) → Grows ts xs
  roomed_grows (Ok x) xs v n ok err =
      subst (Grows ts) (sym (ok ∙ ap (λ (ys : Trees). placed ys v n) roomed)) (grows_on ts (added ts w) (placed (added ts w) v n) (grows_added ts w) (grows_placed (added ts w) v n))
  roomed_grows (Err e) xs v n ok err = subst (Grows ts) (sym (err ∙ roomed)) (grows_added ts w)

-- ---- which words those of a group are

trees_named : (ts : Trees) (ps : Pairs) → AreTreesOf ps → AreTrees (named ts ps)
trees_named ts [] h = tt
trees_named ts (p ∷ ps) h = (h.0, trees_named ts ps h.1)

newest_sorted : (gs : List Group) → AreSorted gs → AreTreesOf (newest gs)
newest_sorted [] h = tt
newest_sorted (g ∷ gs) h = h.0

pub newest_places : (ts : Trees) (gs : List Group) → CanBeUndone ts gs → HavePlaces (length ts) (newest gs)
newest_places ts [] h = tt
newest_places ts (g ∷ gs) h = h.0

-- a word stands among words
pub room_among : (ks : Trees) (v : List ℕ) → has_room ks v ≡ list_any (bytes_eq v) (map (λ k. k.0) ks)
room_among [] v = refl
room_among (k ∷ ks) v =
    split (is_eq (W v k.0)) (lookup (is_at (W v)) ks) k.1
    ∙ (λ i. is_eq-slice_cmp v k.0 i || room_among ks v i)
  where
    split : (b : Bool) (o : Option Subtree) (n : Subtree) → is_some (cond b (Some n) o) ≡ (b || is_some o)
    split true o n = refl
    split false o n = refl

others_none : (ws : List (List ℕ)) (ks : Trees) (v : List ℕ) → AreOthers ws ks → list_any (bytes_eq v) ws ≡ true → has_room ks v ≡ false
others_none ws [] v h e = refl
others_none ws (k ∷ ks) v h e = by (others_none ws ks v h.1 e) (is_eq (W v k.0)) refl
  where
    by : has_room ks v ≡ false → (b : Bool) → is_eq (W v k.0) ≡ b → is_some (cond (is_eq (W v k.0)) (Some k.1) (lookup (is_at (W v)) ks)) ≡ false
    by below true f =
        let no : list_any (bytes_eq v) ws ≡ false = ap (λ (x : List ℕ). list_any (bytes_eq x) ws) (same_word v k.0 f) ∙ h.0 in
        absurd (cc (no, e))
    by below false f = ap (λ b. is_some (cond b (Some k.1) (lookup (is_at (W v)) ks))) f ∙ below

-- a word that stands there has a place
pub has_place : (ts : Trees) (v : List ℕ) → has_room ts v ≡ true → (p : ℕ) × ((p < length ts) × (word_at ts p ≡ v))
has_place [] v h = absurd cc
has_place (k ∷ ks) v h = by (has_place ks v) (is_eq (W v k.0)) refl
  where
    by : (has_room ks v ≡ true → (p : ℕ) × ((p < length ks) × (word_at ks p ≡ v))) → (b : Bool) → is_eq (W v k.0) ≡ b → (p : ℕ) × ((p < length (k ∷ ks)) × (word_at (k ∷ ks) p ≡ v))
    by below true f = (0, (omega arith, sym (same_word v k.0 f)))
    by below false f =
        let so = below (sym (ap (λ b. is_some (cond b (Some k.1) (lookup (is_at (W v)) ks))) f) ∙ h) in
        (suc so.0, (omega (arith, so.1.0), so.1.1))

-- ---- NEW

module _ (ts us : Trees) (gs hs : List Group) (ws : List (List ℕ)) (rises : AreTrees ts) (rises_now : AreTrees us) (sorted : AreSorted hs) (kept : CanBeUndone ts gs) where
  N : Trees
  N = named us (newest hs)

  trees_saved : AreTrees (named us (newest hs))
  trees_saved = trees_named us (newest hs) (newest_sorted hs sorted)

  module _ (hides : HidesOnly ws ts us gs hs) where
    among_is : (v : List ℕ) → has_room (named us (newest hs)) v ≡ list_any (bytes_eq v) ws
    among_is v = room_among (named us (newest hs)) v ∙ ap (list_any (bytes_eq v)) hides.1

    turned : (b : Bool) (x : Subtree) → cond b [] x ≡ cond (not b) x []
    turned true x = refl
    turned false x = refl

    only_now : content us ≡ filter (λ e. not (covers (Only ws) e.0.word)) (content ts)
    only_now = picked_content (λ w. not (covers (Only ws) w)) ts us rises rises_now (λ v. hides.0.3 v ∙ ap (λ b. cond b [] (at ts v)) (among_is v) ∙ turned (list_any (bytes_eq v) ws) (at ts v))

    only_old : content (named us (newest hs)) ≡ filter (λ e. covers (Only ws) e.0.word) (content ts)
    only_old = picked_content (covers (Only ws)) ts (named us (newest hs)) rises trees_saved (λ v. hides.0.4 v ∙ ap (λ b. cond b (at ts v) []) (among_is v))

    pub only_kept : CanBeUndone us hs
    only_kept = subst (CanBeUndone us) (sym hides.0.1) (hides.0.2, tt, undone_grown ts us gs hides.0.0 kept)

    pub only_held : (h : Held) → held_of ts gs ≡ h → held_of us hs ≡ after_new (Only ws) h
    only_held h same =
        (λ i. record { now = only_now i; saved = map (seen us) (hides.0.1 i) })
        ∙ (λ i. record { now = filter (λ e. not (covers (Only ws) e.0.word)) (content ts); saved = record { words = Only (hides.1 i); locals = only_old i } ∷ seen_grown ts us gs hides.0.0 kept i })
        ∙ ap (after_new (Only ws)) same

  module _ (hides : HidesOthers ws ts us gs hs) where
    -- a word that isn't one of these and wasn't saved had no node
    nothing_there : (v : List ℕ) → list_any (bytes_eq v) ws ≡ false → has_room (named us (newest hs)) v ≡ false → at ts v ≡ []
    nothing_there v other missing = by (has_room ts v) refl
      where
        by : (b : Bool) → has_room ts v ≡ b → at ts v ≡ []
        by true e =
            let so = has_place ts v e in
            let covered : not (list_any (bytes_eq (word_at ts so.0)) ws) ≡ true = ap (λ (x : List ℕ). not (list_any (bytes_eq x) ws)) so.1.1 ∙ ap not other in
            let there : has_room (named us (newest hs)) (word_at ts so.0) ≡ true = hides.2 so.0 so.1.0 covered in
            let yes : has_room (named us (newest hs)) v ≡ true = ap (has_room (named us (newest hs))) (sym so.1.1) ∙ there in
            absurd (cc (missing, yes))
        by false e = at_nowhere ts v e

    but_at : (v : List ℕ) → at us v ≡ cond (not (not (list_any (bytes_eq v) ws))) (at ts v) []
    but_at v = hides.0.3 v ∙ by (list_any (bytes_eq v) ws) (has_room (named us (newest hs)) v) refl refl
      where
        by : (a b : Bool) → list_any (bytes_eq v) ws ≡ a → has_room (named us (newest hs)) v ≡ b → cond b [] (at ts v) ≡ cond (not (not a)) (at ts v) []
        by true true e f = let no : has_room (named us (newest hs)) v ≡ false = others_none ws (named us (newest hs)) v hides.1 e in absurd (cc (no, f))
        by true false e f = refl
        by false true e f = refl
        by false false e f = nothing_there v e f

    but_saved : (v : List ℕ) → at (named us (newest hs)) v ≡ cond (not (list_any (bytes_eq v) ws)) (at ts v) []
    but_saved v = hides.0.4 v ∙ by (list_any (bytes_eq v) ws) (has_room (named us (newest hs)) v) refl refl
      where
        by : (a b : Bool) → list_any (bytes_eq v) ws ≡ a → has_room (named us (newest hs)) v ≡ b → cond b (at ts v) [] ≡ cond (not a) (at ts v) []
        by true true e f = let no : has_room (named us (newest hs)) v ≡ false = others_none ws (named us (newest hs)) v hides.1 e in absurd (cc (no, f))
        by true false e f = refl
        by false true e f = refl
        by false false e f = sym (nothing_there v e f)

    but_now : content us ≡ filter (λ e. not (covers (AllBut ws) e.0.word)) (content ts)
    but_now = picked_content (λ w. not (covers (AllBut ws) w)) ts us rises rises_now but_at

    but_old : content (named us (newest hs)) ≡ filter (λ e. covers (AllBut ws) e.0.word) (content ts)
    but_old = picked_content (covers (AllBut ws)) ts (named us (newest hs)) rises trees_saved but_saved

    pub but_kept : CanBeUndone us hs
    but_kept = subst (CanBeUndone us) (sym hides.0.1) (hides.0.2, hides.1, undone_grown ts us gs hides.0.0 kept)

    pub but_held : (h : Held) → held_of ts gs ≡ h → held_of us hs ≡ after_new (AllBut ws) h
    but_held h same =
        (λ i. record { now = but_now i; saved = map (seen us) (hides.0.1 i) })
        ∙ (λ i. record { now = filter (λ e. not (covers (AllBut ws) e.0.word)) (content ts); saved = record { words = AllBut ws; locals = but_old i } ∷ seen_grown ts us gs hides.0.0 kept i })
        ∙ ap (after_new (AllBut ws)) same

-- after an `Err` the trees are as they were

pub new_kept : {A E : Type 0} (r : Result A E) (P : Type 0) (ts us : Trees) (gs hs : List Group)
    → (P → CanBeUndone us hs) → OnOk r P → OnErr r (hs ≡ gs) → Grows ts us → CanBeUndone ts gs → CanBeUndone us hs
new_kept (Ok x) P ts us gs hs f ok err g kept = f ok
new_kept (Err e) P ts us gs hs f ok err g kept = subst (CanBeUndone us) (sym err) (undone_grown ts us gs g kept)

pub new_refused : {A E : Type 0} (r : Result A E) (ts us : Trees) (gs hs : List Group) (h : Held)
    → OnErr r (hs ≡ gs) → OnErr r ((v : List ℕ) → at us v ≡ at ts v) → Grows ts us → AreTrees ts → AreTrees us → CanBeUndone ts gs → held_of ts gs ≡ h → OnErr r (held_of us hs ≡ h)
new_refused (Ok x) ts us gs hs h same same_nodes g rises rises_now kept is = tt
new_refused (Err e) ts us gs hs h same same_nodes g rises rises_now kept is =
    ap (held_of us) same ∙ unchanged ts us gs h kept g (same_at ts us rises rises_now same_nodes) is

-- ---- undoing

word_spared : (ws : List (List ℕ)) (ts : Trees) (p : ℕ) → word_at (all_spared ws ts) p ≡ word_at ts p
word_spared ws [] p = refl
word_spared ws (k ∷ ks) zero = refl
word_spared ws (k ∷ ks) (suc p) = word_spared ws ks p

length_spared : (ws : List (List ℕ)) (ts : Trees) → length (all_spared ws ts) ≡ length ts
length_spared ws [] = refl
length_spared ws (k ∷ ks) = ap suc (length_spared ws ks)

pub grows_spared : (ws : List (List ℕ)) (ts : Trees) → Grows ts (all_spared ws ts)
grows_spared ws ts = grows_same ts (all_spared ws ts) (length_spared ws ts) (word_spared ws ts)

word_kept : (kept : Option (List (List ℕ))) (ts : Trees) (p : ℕ) → word_at (kept_of kept ts) p ≡ word_at ts p
word_kept None ts p = refl
word_kept (Some ws) ts p = word_spared ws ts p

length_kept : (kept : Option (List (List ℕ))) (ts : Trees) → length (kept_of kept ts) ≡ length ts
length_kept None ts = refl
length_kept (Some ws) ts = length_spared ws ts

pub grows_put : (ks ts : Trees) (kept : Option (List (List ℕ))) → Grows ts (all_put ks (kept_of kept ts))
grows_put ks ts kept =
    grows_same ts (all_put ks (kept_of kept ts)) (length_all_put ks (kept_of kept ts) ∙ length_kept kept ts) (λ p. word_all_put ks (kept_of kept ts) p ∙ word_kept kept ts p)

-- each word that the NEW covers is as it was, and all others are as they are
put_at : (kept : Option (List (List ℕ))) (ts : Trees) (ps : Pairs) → HavePlaces (length ts) ps
    → AreCovered kept (named ts ps) → (v : List ℕ) → at (all_put (named ts ps) (kept_of kept ts)) v ≡ cond (covers (words_of kept (named ts ps)) v) (at (named ts ps) v) (at ts v)
put_at None ts ps places others v =
    at_all_put (named ts ps) ts v (have_room ts ps places)
    ∙ ap (λ b. cond b (at (named ts ps) v) (at ts v)) (room_among (named ts ps) v)
put_at (Some ws) ts ps places others v =
    at_all_put (named ts ps) (all_spared ws ts) v room
    ∙ ap (λ (n : Subtree). cond (has_room (named ts ps) v) (at (named ts ps) v) n) (at_spared ws ts v)
    ∙ by (list_any (bytes_eq v) ws) (has_room (named ts ps) v) refl refl
  where
    same : named (all_spared ws ts) ps ≡ named ts ps
    same = named_words ts (all_spared ws ts) ps (word_spared ws ts)

    room : HaveRoom (all_spared ws ts) (named ts ps)
    room = subst (HaveRoom (all_spared ws ts)) same (have_room (all_spared ws ts) ps (subst (λ n. HavePlaces n ps) (sym (length_spared ws ts)) places))

    by : (a b : Bool) → list_any (bytes_eq v) ws ≡ a → has_room (named ts ps) v ≡ b → cond b (at (named ts ps) v) (cond a (at ts v) []) ≡ cond (not a) (at (named ts ps) v) (at ts v)
    by true true e f = let no : has_room (named ts ps) v ≡ false = others_none ws (named ts ps) v others e in absurd (cc (no, f))
    by true false e f = refl
    by false true e f = refl
    by false false e f = sym (at_nowhere (named ts ps) v f)

pub undo_kept : (ts us : Trees) (gs hs : List Group) → us ≡ all_put (named ts (newest gs)) (kept_of (spared_by gs) ts) → hs ≡ rest gs → CanBeUndone ts gs → CanBeUndone us hs
undo_kept ts us [] hs is left kept = subst (CanBeUndone us) (sym left) tt
undo_kept ts us (g ∷ gs) hs is left kept =
    subst (CanBeUndone us) (sym left) (undone_grown ts us gs (subst (Grows ts) (sym is) (grows_put (named ts g.1) ts g.0)) kept.2)

pub undo_held : (ts us : Trees) (gs hs : List Group) → us ≡ all_put (named ts (newest gs)) (kept_of (spared_by gs) ts)
    → hs ≡ rest gs → CanBeUndone ts gs → AreTrees ts → AreTrees us → AreSorted gs → (h : Held) → held_of ts gs ≡ h → held_of us hs ≡ after_undo h
undo_held ts us [] hs is left kept rises rises_now sorted h same = (λ i. held_of (is i) (left i)) ∙ ap after_undo same
undo_held ts us (g ∷ gs) hs is left kept rises rises_now sorted h same =
    let now : content us ≡ put_back (seen ts g) (content ts) =
    restored_content (words_of g.0 (named ts g.1)) (named ts g.1) ts us (trees_named ts g.1 sorted.0) rises rises_now (λ v. ap (λ (xs : Trees). at xs v) is ∙ put_at g.0 ts g.1 kept.0 kept.1 v) in
    (λ i. held_of us (left i))
    ∙ (λ i. record { now = now i; saved = seen_grown ts us gs (subst (Grows ts) (sym is) (grows_put (named ts g.1) ts g.0)) kept.2 i })
    ∙ ap after_undo same

-- ---- the words of what was saved last

listed : List Saved → List (List ℕ)
listed [] = []
listed (v ∷ vs) = elim v.words [ Only ws ↦ ws | AllBut ws ↦ ws ]

is_only : List Saved → Bool
is_only [] = false
is_only (v ∷ vs) = elim v.words [ Only ws ↦ true | AllBut ws ↦ false ]

pub words_of_top : (ts : Trees) (gs : List Group) (ws : List (List ℕ)) (l : Content) (more : List Saved)
    → map (seen ts) gs ≡ record { words = Only ws; locals = l } ∷ more → map (λ k. k.0) (named ts (newest gs)) ≡ ws
unfolding listed is_only
words_of_top ts [] ws l more e = let no : false ≡ true = ap is_only e in absurd cc
words_of_top ts ((None, ps) ∷ gs) ws l more e = ap listed e
words_of_top ts ((Some kept, ps) ∷ gs) ws l more e = let no : false ≡ true = ap is_only e in absurd cc
