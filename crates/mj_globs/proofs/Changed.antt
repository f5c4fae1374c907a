-- What the words hold after one of them is changed, added or taken out.
use Rattle.std.proofs.Common.{◌≡◌, ℕ, Bool, List, [], Option, Some, None, Vec, Global, sym, ap, ◌∙◌, subst, Result, Ok, Err, OnOk, OnErr}
use Rattle.std.specs.Prelude.{T}
use Rattle.std.specs.Map.{lookup, set_value, remove_entry}
use Rattle.std.specs.BTreeMap.{is_at, insert_entry}
use Rattle.std.specs.FinMap.{put, is_sorted}
use Rattle.std.proofs.lemmas.Cmp.{nat_list_cmp_total}
use Rattle.mj_subs.specs.Collation.{subscript_cmp}
use Rattle.mj_store.specs.Questions.{Subtree}
use Rattle.mj_store.specs.Changes.{after_set, after_kill, after_put}
use Rattle.mj_tree.specs.Nest.{nodes_of, without, put_behind}
use Rattle.mj_tree.specs.Maps.{set_value_same, lookup_written, sorted_set_value, sorted_removed, sorted_insert, insert-set_value}
use Rattle.mj_globs.specs.Words.{Words, spelled, name, of_kind}
use Rattle.mj_globs.proofs.Groups.{W, S, set_kind, kill_none, kill_some, kind_removed, put_some, put_none}
use Rattle.mj_globs.proofs.Spelled.{lookup_spelled, set_spelled}

-- a word that is there
module _ (es fs : List (Vec ℕ Global × Subtree)) (key word : List ℕ) (same : key ≡ word) (p : List (List ℕ)) (c w : Subtree) (there : lookup (is_at (λ (k : Vec ℕ Global). W key k.items)) es ≡ Some c)
    (written : fs ≡ set_value (is_at (λ (k : Vec ℕ Global). W key k.items)) es w) (h : T (is_sorted W (spelled es))) where
  here : lookup (is_at (W word)) (spelled es) ≡ Some c
  here = ap (λ (s : List ℕ). lookup (is_at (W s)) (spelled es)) (sym same) ∙ sym (lookup_spelled (W key) es) ∙ there

  after : spelled fs ≡ set_value (is_at (W word)) (spelled es) w
  after = ap spelled written ∙ set_spelled (W key) es w ∙ ap (λ (s : List ℕ). set_value (is_at (W s)) (spelled es) w) same

  pub rises_there : T (is_sorted W (spelled fs))
  rises_there = subst (λ (xs : Words). T (is_sorted W xs)) (sym after) (sorted_set_value W nat_list_cmp_total (spelled es) word c w h here)

  pub same_there : w ≡ c → spelled fs ≡ spelled es
  same_there is = after ∙ ap (set_value (is_at (W word)) (spelled es)) is ∙ set_value_same W (spelled es) word c here

  pub set_there : (v : List ℕ) → w ≡ put S p v c → (g : Bool) → of_kind g (spelled fs) ≡ after_set (of_kind g (spelled es)) (name g word p) v
  set_there v is g =
      ap (of_kind g) (after ∙ ap (set_value (is_at (W word)) (spelled es)) is ∙ sym (insert-set_value W nat_list_cmp_total (spelled es) word c (put S p v c) h here)
      ∙ ap (λ (l : Option Subtree). insert_entry W (spelled es) word (put S p v (nodes_of l))) (sym here))
      ∙ sym (set_kind g word p v (spelled es) h)

  pub kill_there : w ≡ without subscript_cmp p c → (g : Bool) → of_kind g (spelled fs) ≡ after_kill (of_kind g (spelled es)) (name g word p)
  kill_there is g = ap (of_kind g) (after ∙ ap (set_value (is_at (W word)) (spelled es)) is) ∙ sym (kill_some g word p (spelled es) c h here)

  pub put_there : (more : Subtree) → w ≡ put_behind subscript_cmp p more c → (g : Bool) → of_kind g (spelled fs) ≡ after_put (of_kind g (spelled es)) (name g word p) more
  put_there more is g = ap (of_kind g) (after ∙ ap (set_value (is_at (W word)) (spelled es)) is) ∙ sym (put_some g word p more (spelled es) c h here)

  module _ (gs : List (Vec ℕ Global × Subtree)) (removed : spelled gs ≡ remove_entry (is_at (W key)) (spelled fs)) where
    pub rises_removed : T (is_sorted W (spelled gs))
    rises_removed = subst (λ (xs : Words). T (is_sorted W xs)) (sym removed) (sorted_removed W key (spelled fs) rises_there)

    pub kill_removed : w ≡ without subscript_cmp p c → w ≡ [] → (g : Bool) → of_kind g (spelled gs) ≡ after_kill (of_kind g (spelled es)) (name g word p)
    kill_removed is gone g =
        ap (of_kind g) removed
        ∙ kind_removed g (spelled fs) key (ap (λ (s : List ℕ). lookup (is_at (W s)) (spelled fs)) same ∙ ap (lookup (is_at (W word))) after ∙ lookup_written W (spelled es) word c w here
        ∙ ap (λ (n : Subtree). Some n) gone)
        ∙ kill_there is g

-- a word that isn't there
module _ (es fs : List (Vec ℕ Global × Subtree)) (key word : List ℕ) (same : key ≡ word) (p : List (List ℕ)) (absent : lookup (is_at (λ (k : Vec ℕ Global). W key k.items)) es ≡ None)
    (kept : spelled fs ≡ spelled es) (h : T (is_sorted W (spelled es))) where
  nowhere : lookup (is_at (W word)) (spelled es) ≡ None
  nowhere = ap (λ (s : List ℕ). lookup (is_at (W s)) (spelled es)) (sym same) ∙ sym (lookup_spelled (W key) es) ∙ absent

  pub kill_absent : (g : Bool) → of_kind g (spelled fs) ≡ after_kill (of_kind g (spelled es)) (name g word p)
  kill_absent g = ap (of_kind g) kept ∙ sym (kill_none g word p (spelled es) nowhere)

  module _ (gs : List (Vec ℕ Global × Subtree)) (w : Subtree) where
    pub rises_added : {A E : Type 0} (r : Result A E) → OnOk r (spelled gs ≡ insert_entry W (spelled fs) key w) → OnErr r (spelled gs ≡ spelled fs) → T (is_sorted W (spelled gs))
    rises_added (Ok x) ok err = subst (λ (xs : Words). T (is_sorted W xs)) (sym (ok ∙ ap (λ (xs : Words). insert_entry W xs key w) kept)) (sorted_insert W nat_list_cmp_total (spelled es) key w h)
    rises_added (Err e) ok err = subst (λ (xs : Words). T (is_sorted W xs)) (sym (err ∙ kept)) h

    pub set_absent : (v : List ℕ) → w ≡ put S p v [] → spelled gs ≡ insert_entry W (spelled fs) key w → (g : Bool) → of_kind g (spelled gs) ≡ after_set (of_kind g (spelled es)) (name g word p) v
    set_absent v is added g =
        ap (of_kind g) (added ∙ (λ i. insert_entry W (kept i) (same i) (is i)) ∙ ap (λ (l : Option Subtree). insert_entry W (spelled es) word (put S p v (nodes_of l))) (sym nowhere))
        ∙ sym (set_kind g word p v (spelled es) h)

    pub put_absent : (more : Subtree) → w ≡ put_behind subscript_cmp p more [] → spelled gs ≡ insert_entry W (spelled fs) key w → (g : Bool)
        → of_kind g (spelled gs) ≡ after_put (of_kind g (spelled es)) (name g word p) more
    put_absent more is added g =
        ap (of_kind g) (added ∙ (λ i. insert_entry W (kept i) (same i) (is i)))
        ∙ sym (put_none g word p more (spelled es) h nowhere)
