-- What is asked of a name is asked of its kind, and what changes at a name changes among its kind.
use Rattle.std.proofs.Common.{◌≡◌, ℕ, Bool, true, false, cond, List, [], ◌∷◌, ◌++◌, Option, Some, None, refl, sym, ap, ◌∙◌, subst, Result, Ok, Err, OnOk, OnErr}
use Rattle.std.specs.Prelude.{T}
use Rattle.std.specs.declared.cmp.Ordering.TheVariants.{Less, Equal, Greater}
use Rattle.std.specs.FinMap.{find, is_sorted}
use Rattle.std.specs.FinMap.Entries.{by_order, is_sorted-put, is_sorted-where_key}
use Rattle.std.specs.Option.{is_none}
use Rattle.std.specs.Map.{lookup}
use Rattle.std.specs.BTreeMap.{is_at}
use Rattle.mj_subs.specs.Name.{Name}
use Rattle.mj_subs.specs.Collation.{subscript_cmp, name_cmp}
use Rattle.mj_subs.specs.Laws.Total.{name_cmp_total}
use Rattle.std.specs.Option.{option_map}
use Rattle.mj_store.specs.Nodes.{subtree, next_after}
use Rattle.mj_store.specs.Questions.{Content, Subtree, with_subscripts, rest_of, value_at, subtree_at, query_at}
use Rattle.mj_store.specs.Changes.{after_set, after_kill, followed_by, after_put}
use Rattle.mj_tree.specs.Nest.{nodes_of}
use Rattle.mj_globs.specs.Words.{Words, name, of_word, of_kind, of_both}
use Rattle.mj_globs.proofs.Groups.{W, S, append_nil, subtree-append, subtree_kind, find_kind, kill-append}

pub joined : {A : Type 0} (xs ys zs : List A) → (xs ++ ys) ++ zs ≡ xs ++ (ys ++ zs)
joined [] ys zs = refl
joined (x ∷ xs) ys zs = ap (λ r. x ∷ r) (joined xs ys zs)

-- ---- names of the other kind

module _ (w : List ℕ) (p : List (List ℕ)) where
  no_subtree_true : (t : List ℕ) (nodes : Subtree) (rest : Content) → subtree_at (of_word true t nodes ++ rest) (name false w p) ≡ subtree_at rest (name false w p)
  no_subtree_true t [] rest = refl
  no_subtree_true t (e ∷ es) rest = no_subtree_true t es rest

  no_subtree_false : (t : List ℕ) (nodes : Subtree) (rest : Content) → subtree_at (of_word false t nodes ++ rest) (name true w p) ≡ subtree_at rest (name true w p)
  no_subtree_false t [] rest = refl
  no_subtree_false t (e ∷ es) rest = no_subtree_false t es rest

  none_of_globals : (gs : Words) → subtree_at (of_kind true gs) (name false w p) ≡ []
  none_of_globals [] = refl
  none_of_globals (k ∷ ks) = no_subtree_true k.0 k.1 (of_kind true ks) ∙ none_of_globals ks

  none_of_locals : (ls : Words) → subtree_at (of_kind false ls) (name true w p) ≡ []
  none_of_locals [] = refl
  none_of_locals (k ∷ ks) = no_subtree_false k.0 k.1 (of_kind false ks) ∙ none_of_locals ks

  past_word : (t : List ℕ) (nodes : Subtree) (rest : Content) → find name_cmp (name false w p) (of_word true t nodes ++ rest) ≡ find name_cmp (name false w p) rest
  past_word t [] rest = refl
  past_word t (e ∷ es) rest = past_word t es rest

  past_globals : (gs : Words) (rest : Content) → find name_cmp (name false w p) (of_kind true gs ++ rest) ≡ find name_cmp (name false w p) rest
  past_globals [] rest = refl
  past_globals (k ∷ ks) rest = ap (find name_cmp (name false w p)) (joined (of_word true k.0 k.1) (of_kind true ks) rest) ∙ past_word k.0 k.1 (of_kind true ks ++ rest) ∙ past_globals ks rest

  not_word : (t : List ℕ) (nodes : Subtree) (rest : Content) → find name_cmp (name true w p) (of_word false t nodes ++ rest) ≡ find name_cmp (name true w p) rest
  not_word t [] rest = refl
  not_word t (e ∷ es) rest = not_word t es rest

  not_local : (ls : Words) → find name_cmp (name true w p) (of_kind false ls) ≡ None
  not_local [] = refl
  not_local (k ∷ ks) = not_word k.0 k.1 (of_kind false ks) ∙ not_local ks

  before_locals : (xs : Content) (ls : Words) → find name_cmp (name true w p) (xs ++ of_kind false ls) ≡ find name_cmp (name true w p) xs
  before_locals [] ls = not_local ls
  before_locals (x ∷ xs) ls = ap (λ (r : Option (List ℕ)). cond (is_at (name_cmp (name true w p)) x.0) (Some x.1) r) (before_locals xs ls)

  kept_word_true : (t : List ℕ) (nodes : Subtree) (rest : Content) → after_kill (of_word true t nodes ++ rest) (name false w p) ≡ of_word true t nodes ++ after_kill rest (name false w p)
  kept_word_true t [] rest = refl
  kept_word_true t (e ∷ es) rest = ap (λ (r : Content). (name true t e.0, e.1) ∷ r) (kept_word_true t es rest)

  kept_word_false : (t : List ℕ) (nodes : Subtree) (rest : Content) → after_kill (of_word false t nodes ++ rest) (name true w p) ≡ of_word false t nodes ++ after_kill rest (name true w p)
  kept_word_false t [] rest = refl
  kept_word_false t (e ∷ es) rest = ap (λ (r : Content). (name false t e.0, e.1) ∷ r) (kept_word_false t es rest)

  kept_globals : (gs : Words) → after_kill (of_kind true gs) (name false w p) ≡ of_kind true gs
  kept_globals [] = refl
  kept_globals (k ∷ ks) = kept_word_true k.0 k.1 (of_kind true ks) ∙ ap (λ (r : Content). of_word true k.0 k.1 ++ r) (kept_globals ks)

  kept_locals : (ls : Words) → after_kill (of_kind false ls) (name true w p) ≡ of_kind false ls
  kept_locals [] = refl
  kept_locals (k ∷ ks) = kept_word_false k.0 k.1 (of_kind false ks) ∙ ap (λ (r : Content). of_word false k.0 k.1 ++ r) (kept_locals ks)

  set_before : (v : List ℕ) (ls : Words) → after_set (of_kind false ls) (name true w p) v ≡ (name true w p, v) ∷ of_kind false ls
  set_before v [] = refl
  set_before v ((t, []) ∷ ls) = set_before v ls
  set_before v ((t, e ∷ es) ∷ ls) = refl

  set_global : (v : List ℕ) (xs : Content) (ls : Words) → after_set (xs ++ of_kind false ls) (name true w p) v ≡ after_set xs (name true w p) v ++ of_kind false ls
  set_global v [] ls = set_before v ls
  set_global v (x ∷ xs) ls =
      elim (name_cmp (name true w p) x.0) as (λ r. by_order r ((name true w p, v) ∷ x ∷ (xs ++ of_kind false ls)) ((x.0, v) ∷ (xs ++ of_kind false ls))
      (x ∷ after_set (xs ++ of_kind false ls) (name true w p) v) ≡ by_order r ((name true w p, v) ∷ x ∷ xs) ((x.0, v) ∷ xs) (x ∷ after_set xs (name true w p) v) ++ of_kind false ls) [
        | Less ↦ refl
        | Equal ↦ refl
        | Greater ↦ ap (λ (r : Content). x ∷ r) (set_global v xs ls)
      ]

  set_past_word : (v t : List ℕ) (nodes : Subtree) (rest : Content) → after_set (of_word true t nodes ++ rest) (name false w p) v ≡ of_word true t nodes ++ after_set rest (name false w p) v
  set_past_word v t [] rest = refl
  set_past_word v t (e ∷ es) rest = ap (λ (r : Content). (name true t e.0, e.1) ∷ r) (set_past_word v t es rest)

  set_local : (v : List ℕ) (gs : Words) (rest : Content) → after_set (of_kind true gs ++ rest) (name false w p) v ≡ of_kind true gs ++ after_set rest (name false w p) v
  set_local v [] rest = refl
  set_local v (k ∷ ks) rest =
      ap (λ (xs : Content). after_set xs (name false w p) v) (joined (of_word true k.0 k.1) (of_kind true ks) rest)
      ∙ set_past_word v k.0 k.1 (of_kind true ks ++ rest)
      ∙ ap (λ (r : Content). of_word true k.0 k.1 ++ r) (set_local v ks rest)
      ∙ sym (joined (of_word true k.0 k.1) (of_kind true ks) (after_set rest (name false w p) v))

put_global : (w : List ℕ) (p : List (List ℕ)) (more : Subtree) (xs : Content) (ls : Words)
    → after_put (xs ++ of_kind false ls) (name true w p) more ≡ after_put xs (name true w p) more ++ of_kind false ls
put_global w p [] xs ls = refl
put_global w p (e ∷ es) xs ls = ap (λ (c : Content). after_put c (name true w p) es) (set_global w (p ++ e.0) e.1 xs ls) ∙ put_global w p es (after_set xs (name true w (p ++ e.0)) e.1) ls

put_local : (w : List ℕ) (p : List (List ℕ)) (more : Subtree) (gs : Words) (rest : Content)
    → after_put (of_kind true gs ++ rest) (name false w p) more ≡ of_kind true gs ++ after_put rest (name false w p) more
put_local w p [] gs rest = refl
put_local w p (e ∷ es) gs rest = ap (λ (c : Content). after_put c (name false w p) es) (set_local w (p ++ e.0) e.1 gs rest) ∙ put_local w p es gs (after_set rest (name false w (p ++ e.0)) e.1)

-- ---- by the kind of a name

module _ (gs ls : Words) (n : Name) where
  pub subtree_global : true ≡ n.global → T (is_sorted W gs) → (p : List (List ℕ)) → subtree_at (of_both gs ls) (with_subscripts n p) ≡ subtree subscript_cmp p (nodes_of (lookup (is_at (W n.word)) gs))
  subtree_global is h p =
      ap (λ g. subtree_at (of_both gs ls) (name g n.word p)) (sym is)
      ∙ subtree-append (name true n.word p) (of_kind true gs) (of_kind false ls)
      ∙ (λ i. subtree_kind true n.word p gs h i ++ none_of_locals n.word p ls i)
      ∙ append_nil _

  pub subtree_local : false ≡ n.global → T (is_sorted W ls) → (p : List (List ℕ)) → subtree_at (of_both gs ls) (with_subscripts n p) ≡ subtree subscript_cmp p (nodes_of (lookup (is_at (W n.word)) ls))
  subtree_local is h p =
      ap (λ g. subtree_at (of_both gs ls) (name g n.word p)) (sym is)
      ∙ subtree-append (name false n.word p) (of_kind true gs) (of_kind false ls)
      ∙ (λ i. none_of_globals n.word p gs i ++ subtree_kind false n.word p ls h i)

  pub value_global : true ≡ n.global → T (is_sorted W gs) → value_at (of_both gs ls) n ≡ find S n.subscripts (nodes_of (lookup (is_at (W n.word)) gs))
  value_global is h =
      ap (λ g. value_at (of_both gs ls) (name g n.word n.subscripts)) (sym is) ∙ before_locals n.word n.subscripts (of_kind true gs) ls ∙ find_kind true n.word n.subscripts gs h

  pub value_local : false ≡ n.global → T (is_sorted W ls) → value_at (of_both gs ls) n ≡ find S n.subscripts (nodes_of (lookup (is_at (W n.word)) ls))
  value_local is h =
      ap (λ g. value_at (of_both gs ls) (name g n.word n.subscripts)) (sym is) ∙ past_globals n.word n.subscripts gs (of_kind false ls) ∙ find_kind false n.word n.subscripts ls h

  pub set_globals : (v : List ℕ) (hs : Words) → true ≡ n.global → ((g : Bool) → of_kind g hs ≡ after_set (of_kind g gs) (name g n.word n.subscripts) v) → of_both hs ls ≡ after_set (of_both gs ls) n v
  set_globals v hs is changed =
      ap (λ (xs : Content). xs ++ of_kind false ls) (changed true) ∙ sym (set_global n.word n.subscripts v (of_kind true gs) ls) ∙ ap (λ g. after_set (of_both gs ls) (name g n.word n.subscripts) v) is

  pub set_locals : (v : List ℕ) (ms : Words) → false ≡ n.global → ((g : Bool) → of_kind g ms ≡ after_set (of_kind g ls) (name g n.word n.subscripts) v) → of_both gs ms ≡ after_set (of_both gs ls) n v
  set_locals v ms is changed =
      ap (λ (xs : Content). of_kind true gs ++ xs) (changed false) ∙ sym (set_local n.word n.subscripts v gs (of_kind false ls)) ∙ ap (λ g. after_set (of_both gs ls) (name g n.word n.subscripts) v) is

  pub kill_globals : (hs : Words) → true ≡ n.global → ((g : Bool) → of_kind g hs ≡ after_kill (of_kind g gs) (name g n.word n.subscripts)) → of_both hs ls ≡ after_kill (of_both gs ls) n
  kill_globals hs is changed =
      (λ i. changed true i ++ sym (kept_locals n.word n.subscripts ls) i) ∙ sym (kill-append (name true n.word n.subscripts) (of_kind true gs) (of_kind false ls))
      ∙ ap (λ g. after_kill (of_both gs ls) (name g n.word n.subscripts)) is

  pub kill_locals : (ms : Words) → false ≡ n.global → ((g : Bool) → of_kind g ms ≡ after_kill (of_kind g ls) (name g n.word n.subscripts)) → of_both gs ms ≡ after_kill (of_both gs ls) n
  kill_locals ms is changed =
      (λ i. sym (kept_globals n.word n.subscripts gs) i ++ changed false i) ∙ sym (kill-append (name false n.word n.subscripts) (of_kind true gs) (of_kind false ls))
      ∙ ap (λ g. after_kill (of_both gs ls) (name g n.word n.subscripts)) is

  pub put_globals : (more : Subtree) (hs : Words) → true ≡ n.global → ((g : Bool) → of_kind g hs ≡ after_put (of_kind g gs) (name g n.word n.subscripts) more)
      → of_both hs ls ≡ after_put (of_both gs ls) n more
  put_globals more hs is changed =
      ap (λ (xs : Content). xs ++ of_kind false ls) (changed true) ∙ sym (put_global n.word n.subscripts more (of_kind true gs) ls)
      ∙ ap (λ g. after_put (of_both gs ls) (name g n.word n.subscripts) more) is

  pub put_locals : (more : Subtree) (ms : Words) → false ≡ n.global → ((g : Bool) → of_kind g ms ≡ after_put (of_kind g ls) (name g n.word n.subscripts) more)
      → of_both gs ms ≡ after_put (of_both gs ls) n more
  put_locals more ms is changed =
      ap (λ (xs : Content). of_kind true gs ++ xs) (changed false) ∙ sym (put_local n.word n.subscripts more gs (of_kind false ls))
      ∙ ap (λ g. after_put (of_both gs ls) (name g n.word n.subscripts) more) is

-- the names still rise after each change

pub rises_set : (es : Content) (n : Name) (v : List ℕ) → T (is_sorted name_cmp es) → T (is_sorted name_cmp (after_set es n v))
rises_set es n v h = is_sorted-put name_cmp name_cmp_total n v es h

pub rises_kill : (es : Content) (n : Name) → T (is_sorted name_cmp es) → T (is_sorted name_cmp (after_kill es n))
rises_kill es n h = is_sorted-where_key name_cmp (λ m. is_none (rest_of n m)) es h

pub rises_put : (es : Content) (n : Name) (more : Subtree) → T (is_sorted name_cmp es) → T (is_sorted name_cmp (after_put es n more))
rises_put es n [] h = h
rises_put es n (e ∷ more) h = rises_put (after_set es (followed_by n e.0) e.1) n more (rises_set es (followed_by n e.0) e.1 h)

-- also where a change may fail, and then leaves all as it was
pub rises_either : {A E : Type 0} (r : Result A E) (old new changed : Content) → OnOk r (new ≡ changed) → OnErr r (new ≡ old) → T (is_sorted name_cmp old) → T (is_sorted name_cmp changed)
    → T (is_sorted name_cmp new)
rises_either (Ok x) old new changed ok err h k = subst (λ (es : Content). T (is_sorted name_cmp es)) (sym ok) k
rises_either (Err e) old new changed ok err h k = subst (λ (es : Content). T (is_sorted name_cmp es)) (sym err) h

subtree_whole : (nodes : Subtree) → subtree subscript_cmp [] nodes ≡ nodes
subtree_whole [] = refl
subtree_whole (e ∷ es) = ap (λ (r : Subtree). e ∷ r) (subtree_whole es)

-- the next name is that of the next list in the word
pub query_of : (content : Content) (n : Name) (p : List (List ℕ)) (nodes : Subtree) (next : Option (List (List ℕ))) → next ≡ next_after subscript_cmp p nodes → p ≡ n.subscripts
    → subtree_at content (with_subscripts n []) ≡ subtree subscript_cmp [] nodes → option_map (with_subscripts n) next ≡ query_at content n
query_of content n p nodes next is same own =
    ap (option_map (with_subscripts n)) (is ∙ (λ i. next_after subscript_cmp (same i) (sym (own ∙ subtree_whole nodes) i)))
