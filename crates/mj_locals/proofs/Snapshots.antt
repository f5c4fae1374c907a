-- What copies of trees hold, and what it is to put them back.
use Rattle.std.proofs.Common.{◌≡◌, ℕ, ◌+◌, ◌<◌, ◌||◌, None, Some, Bool, true, false, cond, List, [], ◌∷◌, ◌++◌, length, map, take, refl, sym, ap, ◌∙◌, subst}
use Rattle.std.specs.List.{filter, list_any}
use Rattle.std.specs.Str.{bytes_eq}
use Rattle.std.specs.Ordering.{is_eq}
use Rattle.std.specs.Map.{lookup}
use Rattle.std.specs.BTreeMap.{is_at}
use Rattle.mj_tree.specs.Nest.{nodes_of}
use Rattle.std.proofs.lemmas.List.{map-append}
use Rattle.std.proofs.lemmas.Map.Text.{is_eq-slice_cmp}
use Rattle.mj_store.specs.Questions.{Subtree}
use Rattle.mj_globs.proofs.Groups.{W}
use Rattle.mj_semantics.specs.State.{Only, AllBut, covers, put_back}
use Rattle.mj_locals.specs.Held.{Held, with_now, after_unwind}
use Rattle.mj_locals.specs.Groups.{Group, rest}
use Rattle.mj_locals.specs.Kept.{held_of, CanBeUndone}
use Rattle.mj_locals.specs.Trees.{Trees, at, has_room, all_spared, AreTrees, content}
use Rattle.mj_locals.specs.Hiding.{Grows}
use Rattle.mj_locals.specs.Snapshots.{Copies, HaveRoom, copied, saved_of, all_put_back, after_return}
use Rattle.mj_locals.proofs.At.{at_all_put, at_nowhere, room_at}
use Rattle.mj_locals.proofs.Content.{tree_at, restored_content, picked_content, at_spared}
use Rattle.mj_locals.proofs.Saved.{changed, grows_spared, grows_put, room_among, has_place}
use Rattle.mj_locals.proofs.Places.{same_word}

-- ---- copies

pub copied_trees : (ws : List (List ℕ)) (ts : Trees) → AreTrees ts → AreTrees (copied ws ts)
copied_trees [] ts h = tt
copied_trees (w ∷ ws) ts h = (tree_at ts w h, copied_trees ws ts h)

pub copied_next : (ws : List (List ℕ)) (ts rows : Trees) (k : ℕ) (w : List ℕ) (n : Subtree)
    → rows ≡ copied (take k ws) ts → k < length ws → take (k + 1) ws ≡ take k ws ++ w ∷ [] → n ≡ at ts w → rows ++ (w, n) ∷ [] ≡ copied (take (k + 1) ws) ts
copied_next ws ts rows k w n is less one tree =
    (λ i. is i ++ (w, tree i) ∷ [])
    ∙ sym (map-append (λ v. (v, at ts v)) (take k ws) (w ∷ []))
    ∙ sym (ap (λ (vs : List (List ℕ)). copied vs ts) one)

words_copied : (ws : List (List ℕ)) (ts : Trees) → map (λ k. k.0) (copied ws ts) ≡ ws
words_copied [] ts = refl
words_copied (w ∷ ws) ts = ap (λ (vs : List (List ℕ)). w ∷ vs) (words_copied ws ts)

at_copied : (ws : List (List ℕ)) (ts : Trees) (v : List ℕ) → at (copied ws ts) v ≡ cond (list_any (bytes_eq v) ws) (at ts v) []
at_copied [] ts v = refl
at_copied (w ∷ ws) ts v = by (at_copied ws ts v) (is_eq (W v w)) refl
  where
    by : at (copied ws ts) v ≡ cond (list_any (bytes_eq v) ws) (at ts v) [] → (b : Bool) → is_eq (W v w) ≡ b
        → at ((w, at ts w) ∷ copied ws ts) v ≡ cond (bytes_eq v w || list_any (bytes_eq v) ws) (at ts v) []
    by rest true e =
        ap (λ b. nodes_of (cond b (Some (at ts w)) (lookup (is_at (W v)) (copied ws ts)))) e
        ∙ ap (at ts) (sym (same_word v w e))
        ∙ sym (ap (λ b. cond (b || list_any (bytes_eq v) ws) (at ts v) []) (sym (is_eq-slice_cmp v w) ∙ e))
    by rest false e =
        ap (λ b. nodes_of (cond b (Some (at ts w)) (lookup (is_at (W v)) (copied ws ts)))) e
        ∙ rest
        ∙ sym (ap (λ b. cond (b || list_any (bytes_eq v) ws) (at ts v) []) (sym (is_eq-slice_cmp v w) ∙ e))

-- a copy of some words' trees is a copy of their locals
pub some_saved : (ws : List (List ℕ)) (ts : Trees) (gs : List Group) (h : Held) (s : Copies) → held_of ts gs ≡ h → AreTrees ts → s ≡ (false, copied ws ts)
    → saved_of s ≡ record { words = Only ws; locals = filter (λ e. covers (Only ws) e.0.word) h.now }
some_saved ws ts gs h s same rises is =
    ap saved_of is
    ∙ (λ i. record { words = Only (words_copied ws ts i); locals = picked_content (covers (Only ws)) ts (copied ws ts) rises (copied_trees ws ts rises) (at_copied ws ts) i })
    ∙ ap (λ (x : Held). record { words = Only ws; locals = filter (λ e. covers (Only ws) e.0.word) x.now }) same

pub all_saved : (ts : Trees) (gs : List Group) (h : Held) (s : Copies) → held_of ts gs ≡ h → AreTrees ts → s ≡ (true, ts)
    → saved_of s ≡ record { words = AllBut []; locals = filter (λ e. covers (AllBut []) e.0.word) h.now }
all_saved ts gs h s same rises is =
    ap saved_of is
    ∙ (λ i. record { words = AllBut []; locals = picked_content (covers (AllBut [])) ts ts rises rises (λ v. refl) i })
    ∙ ap (λ (x : Held). record { words = AllBut []; locals = filter (λ e. covers (AllBut []) e.0.word) x.now }) same

-- ---- rows

room_grown : (ts us : Trees) → Grows ts us → (v : List ℕ) → has_room ts v ≡ true → has_room us v ≡ true
room_grown ts us g v h =
    let so = has_place ts v h in
    let there = g so.0 so.1.0 in
    ap (has_room us) (sym (there.1 ∙ so.1.1)) ∙ room_at us so.0 there.0

pub rooms_grown : (ts us ks : Trees) → Grows ts us → HaveRoom ts ks → HaveRoom us ks
rooms_grown ts us [] g h = tt
rooms_grown ts us (k ∷ ks) g h = (room_grown ts us g k.0 h.0, rooms_grown ts us ks g h.1)

pub rooms_pushed : (ts ks : Trees) (k : List ℕ × Subtree) → HaveRoom ts ks → has_room ts k.0 ≡ true → HaveRoom ts (ks ++ k ∷ [])
rooms_pushed ts [] k h r = (r, tt)
rooms_pushed ts (x ∷ xs) k h r = (h.0, rooms_pushed ts xs k h.1 r)

-- ---- putting back

pub grows_put_back : (c : Copies) (ts : Trees) → Grows ts (all_put_back c ts)
grows_put_back (true, ks) ts = grows_put ks ts (Some [])
grows_put_back (false, ks) ts = grows_put ks ts None

content_back : (c : Copies) (ts us : Trees) → us ≡ all_put_back c ts → HaveRoom ts c.1 → AreTrees c.1 → AreTrees ts → AreTrees us → content us ≡ put_back (saved_of c) (content ts)
content_back (false, ks) ts us is room rises before now =
    restored_content (Only (map (λ k. k.0) ks)) ks ts us rises before now
    (λ v. ap (λ (xs : Trees). at xs v) is ∙ at_all_put ks ts v room ∙ ap (λ b. cond b (at ks v) (at ts v)) (room_among ks v))
content_back (true, ks) ts us is room rises before now =
    restored_content (AllBut []) ks ts us rises before now
    (λ v.
    ap (λ (xs : Trees). at xs v) is
    ∙ at_all_put ks (all_spared [] ts) v (rooms_grown ts (all_spared [] ts) ks (grows_spared [] ts) room)
    ∙ ap (λ (n : Subtree). cond (has_room ks v) (at ks v) n) (at_spared [] ts v)
    ∙ by v (has_room ks v) refl)
  where
    by : (v : List ℕ) (b : Bool) → has_room ks v ≡ b → cond b (at ks v) (cond (list_any (bytes_eq v) []) (at ts v) []) ≡ at ks v
    by v true e = refl
    by v false e = sym (at_nowhere ks v e)

-- first what was saved above a height is put back, and then the copies
pub returned : (height : ℕ) (c v : Copies) (h : Held) (ts us : Trees) (gs : List Group) → held_of ts gs ≡ after_unwind height h → us ≡ all_put_back c ts
    → CanBeUndone ts gs → HaveRoom ts c.1 → AreTrees c.1 → AreTrees ts → AreTrees us → c ≡ v → held_of us gs ≡ after_return height (saved_of v) h
returned height c v h ts us gs back is kept room rises before now same =
    changed ts us gs (put_back (saved_of c)) (held_of ts gs) kept (subst (Grows ts) (sym is) (grows_put_back c ts)) (content_back c ts us is room rises before now) refl
    ∙ ap (λ (x : Held). with_now (put_back (saved_of c) x.now) x) back
    ∙ ap (λ (x : Copies). after_return height (saved_of x) h) same
