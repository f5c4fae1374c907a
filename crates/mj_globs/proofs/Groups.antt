-- What is asked of the names of a kind is asked of the nodes of one word, and what changes among them changes in that word.
use Rattle.std.proofs.Common.{◌≡◌, ℕ, Bool, true, false, cond, ◌&&◌, List, [], ◌∷◌, ◌++◌, Option, Some, None, refl, sym, ap, ◌∙◌, subst}
use Rattle.std.specs.Prelude.{T}
use Rattle.std.specs.declared.cmp.Ordering.{Ordering}
use Rattle.std.specs.declared.cmp.Ordering.TheVariants.{Less, Equal, Greater}
use Rattle.std.specs.Ordering.{is_eq, is_lt, nat_cmp, ordering_then, match_ordering}
use Rattle.std.specs.Cmp.{tied_itself}
use Rattle.std.specs.Cmp.Lexicographic.{slice_cmp}
use Rattle.std.specs.Str.{bytes_eq}
use Rattle.std.specs.FinMap.{IsAntisymmetric, find, put, is_sorted, nat_cmp-IsAntisymmetric, slice_cmp-IsAntisymmetric}
use Rattle.std.specs.FinMap.Entries.{by_order, below_all}
use Rattle.std.specs.List.{filter, filter_map, cons_option}
use Rattle.std.specs.Option.{option_map, is_none}
use Rattle.std.specs.Map.{lookup, set_value, remove_entry}
use Rattle.std.specs.BTreeMap.{is_at, insert_entry}
use Rattle.std.proofs.lemmas.Cmp.{nat_list_cmp_total}
use Rattle.std.proofs.lemmas.Map.Text.{is_eq-slice_cmp}
use Rattle.mj_subs.specs.Name.{Name, kinds_eq}
use Rattle.mj_subs.specs.Collation.{subscript_cmp, subscripts_cmp, kind_cmp, name_cmp}
use Rattle.mj_subs.specs.Laws.Total.{subscripts_cmp-slice}
use Rattle.mj_store.specs.Nodes.{after_front, subtree}
use Rattle.mj_store.specs.Questions.{Content, Subtree, rest_of, subtree_at}
use Rattle.mj_store.specs.Changes.{after_set, after_kill, after_put}
use Rattle.mj_tree.specs.Nest.{nodes_of, without, put_behind}
use Rattle.mj_tree.specs.Maps.{first_so, second_so, is_less, lookup_before, before_less, tied_before, set_value_same, set_value_twice, lookup_written, sorted_set_value, insert-set_value, sorted_insert, lookup_added, added_twice}
use Rattle.mj_globs.specs.Words.{Words, name, of_word, of_kind}

-- how words stand, and lists of subscripts
abbrev pub W : List ℕ → List ℕ → Ordering
W = slice_cmp nat_cmp

abbrev pub S : List (List ℕ) → List (List ℕ) → Ordering
S = slice_cmp subscript_cmp

pub W_same : IsAntisymmetric W
W_same = slice_cmp-IsAntisymmetric nat_cmp-IsAntisymmetric

kind_same : (g : Bool) → kind_cmp g g ≡ Equal
kind_same true = refl
kind_same false = refl

kinds_same : (g : Bool) → kinds_eq g g ≡ true
kinds_same true = refl
kinds_same false = refl

pub name_apart : (g : Bool) (s t : List ℕ) (p q : List (List ℕ)) → name_cmp (name g s p) (name g t q) ≡ ordering_then (W s t) (S p q)
name_apart g s t p q =
    ap (λ r. ordering_then r (ordering_then (W s t) (subscripts_cmp p q))) (kind_same g) ∙ ap (λ r. ordering_then (W s t) r) (subscripts_cmp-slice p q)

rest_apart : (g : Bool) (s t : List ℕ) (p q : List (List ℕ)) → rest_of (name g s p) (name g t q) ≡ cond (is_eq (W s t)) (after_front subscript_cmp p q) None
rest_apart g s t p q =
    ap (λ b. cond (b && bytes_eq s t) (after_front subscript_cmp p q) None) (kinds_same g) ∙ ap (λ b. cond b (after_front subscript_cmp p q) None) (sym (is_eq-slice_cmp s t))

pub append_nil : {A : Type 0} (xs : List A) → xs ++ [] ≡ xs
append_nil [] = refl
append_nil (x ∷ xs) = ap (λ ys. x ∷ ys) (append_nil xs)

-- ---- questions

pub subtree-append : (n : Name) (xs ys : Content) → subtree_at (xs ++ ys) n ≡ subtree_at xs n ++ subtree_at ys n
subtree-append n [] ys = refl
subtree-append n (x ∷ xs) ys =
    ap (cons_option (option_map (λ l. (l, x.1)) (rest_of n x.0))) (subtree-append n xs ys) ∙ joined (option_map (λ l. (l, x.1)) (rest_of n x.0))
  where
    joined : (y : Option (List (List ℕ) × List ℕ)) → cons_option y (subtree_at xs n ++ subtree_at ys n) ≡ cons_option y (subtree_at xs n) ++ subtree_at ys n
    joined None = refl
    joined (Some y) = refl

pub kill-append : (n : Name) (xs ys : Content) → after_kill (xs ++ ys) n ≡ after_kill xs n ++ after_kill ys n
kill-append n [] ys = refl
kill-append n (x ∷ xs) ys =
    ap (λ (r : Content). cond (is_none (rest_of n x.0)) (x ∷ r) r) (kill-append n xs ys)
    ∙ elim (is_none (rest_of n x.0)) as (λ b. cond b (x ∷ (after_kill xs n ++ after_kill ys n)) (after_kill xs n ++ after_kill ys n)
    ≡ cond b (x ∷ after_kill xs n) (after_kill xs n) ++ after_kill ys n) [ true ↦ refl | false ↦ refl ]

module _ (g : Bool) where
  picked : (p : List (List ℕ)) (b : Bool) (nodes : Subtree) → filter_map (λ (e : List (List ℕ) × List ℕ). option_map (λ l. (l, e.1)) (cond b (after_front subscript_cmp p e.0) None)) nodes
      ≡ cond b (subtree subscript_cmp p nodes) []
  picked p true nodes = refl
  picked p false [] = refl
  picked p false (e ∷ es) = picked p false es

  passed_down : (s t : List ℕ) (p : List (List ℕ)) (nodes : Subtree) → subtree_at (of_word g t nodes) (name g s p)
      ≡ filter_map (λ (e : List (List ℕ) × List ℕ). option_map (λ l. (l, e.1)) (cond (is_eq (W s t)) (after_front subscript_cmp p e.0) None)) nodes
  passed_down s t p [] = refl
  passed_down s t p (e ∷ es) = (λ i. cons_option (option_map (λ l. (l, e.1)) (rest_apart g s t p e.0 i)) (passed_down s t p es i))

  subtree_word : (s t : List ℕ) (p : List (List ℕ)) (nodes : Subtree) → subtree_at (of_word g t nodes) (name g s p) ≡ cond (is_eq (W s t)) (subtree subscript_cmp p nodes) []
  subtree_word s t p nodes = passed_down s t p nodes ∙ picked p (is_eq (W s t)) nodes

  subtree_before : (s : List ℕ) (p : List (List ℕ)) (ks : Words) → T (below_all W s ks) → subtree_at (of_kind g ks) (name g s p) ≡ []
  subtree_before s p [] h = refl
  subtree_before s p (k ∷ ks) h =
      subtree-append (name g s p) (of_word g k.0 k.1) (of_kind g ks)
      ∙ (λ i. (subtree_word s k.0 p k.1 ∙ ap (λ r. cond (is_eq r) (subtree subscript_cmp p k.1) []) (is_less _ (first_so _ _ h))) i ++ subtree_before s p ks (second_so _ _ h) i)

  -- what stands at and below a name is what stands there in its word
  pub subtree_kind : (s : List ℕ) (p : List (List ℕ)) (ks : Words) → T (is_sorted W ks) → subtree_at (of_kind g ks) (name g s p) ≡ subtree subscript_cmp p (nodes_of (lookup (is_at (W s)) ks))
  subtree_kind s p [] h = refl
  subtree_kind s p (k ∷ ks) h =
      subtree-append (name g s p) (of_word g k.0 k.1) (of_kind g ks)
      ∙ ap (λ (xs : Subtree). xs ++ subtree_at (of_kind g ks) (name g s p)) (subtree_word s k.0 p k.1)
      ∙ elim (W s k.0) as (λ r. W s k.0 ≡ r → cond (is_eq r) (subtree subscript_cmp p k.1) [] ++ subtree_at (of_kind g ks) (name g s p)
      ≡ subtree subscript_cmp p (nodes_of (cond (is_eq r) (Some k.1) (lookup (is_at (W s)) ks)))) [
        | Less ↦ λ e. subtree_kind s p ks (second_so _ _ h)
        | Equal ↦ λ e.
            ap (λ (xs : Subtree). subtree subscript_cmp p k.1 ++ xs) (subtree_before s p ks (tied_before W nat_list_cmp_total s k.0 ks e (first_so _ _ h))) ∙ append_nil (subtree subscript_cmp p k.1)
        | Greater ↦ λ e. subtree_kind s p ks (second_so _ _ h)
      ] refl

  find_past : (s t : List ℕ) (p : List (List ℕ)) (nodes : Subtree) (rest : Content) → is_eq (W s t) ≡ false → find name_cmp (name g s p) (of_word g t nodes ++ rest) ≡ find name_cmp (name g s p) rest
  find_past s t p [] rest h = refl
  find_past s t p (e ∷ es) rest h =
      ap (λ r. cond (is_eq r) (Some e.1) (find name_cmp (name g s p) (of_word g t es ++ rest))) (name_apart g s t p e.0)
      ∙ ap (λ b. cond b (Some e.1) (find name_cmp (name g s p) (of_word g t es ++ rest))) (apart (W s t) h)
      ∙ find_past s t p es rest h
    where
      apart : (r : Ordering) → is_eq r ≡ false → is_eq (ordering_then r (S p e.0)) ≡ false
      apart Less h = refl
      apart Equal h = absurd cc
      apart Greater h = refl

  find_in : (s t : List ℕ) (p : List (List ℕ)) (nodes : Subtree) (rest : Content) → W s t ≡ Equal → find name_cmp (name g s p) rest ≡ None
      → find name_cmp (name g s p) (of_word g t nodes ++ rest) ≡ find S p nodes
  find_in s t p [] rest e none = none
  find_in s t p (x ∷ xs) rest e none =
      (λ i. cond (is_eq ((name_apart g s t p x.0 ∙ ap (λ r. ordering_then r (S p x.0)) e) i)) (Some x.1) (find_in s t p xs rest e none i))

  -- the text of a name is that of its subscripts in its word
  pub find_kind : (s : List ℕ) (p : List (List ℕ)) (ks : Words) → T (is_sorted W ks) → find name_cmp (name g s p) (of_kind g ks) ≡ find S p (nodes_of (lookup (is_at (W s)) ks))
  find_kind s p [] h = refl
  find_kind s p (k ∷ ks) h =
      elim (W s k.0) as (λ r. W s k.0 ≡ r → find name_cmp (name g s p) (of_word g k.0 k.1 ++ of_kind g ks) ≡ find S p (nodes_of (cond (is_eq r) (Some k.1) (lookup (is_at (W s)) ks)))) [
        | Less ↦ λ e. find_past s k.0 p k.1 (of_kind g ks) (ap is_eq e) ∙ find_kind s p ks (second_so _ _ h)
        | Equal ↦ λ e.
            find_in s k.0 p k.1 (of_kind g ks) e (find_kind s p ks (second_so _ _ h) ∙ ap (λ (l : Option Subtree). find S p (nodes_of l))
            (lookup_before W s ks (tied_before W nat_list_cmp_total s k.0 ks e (first_so _ _ h))))
        | Greater ↦ λ e. find_past s k.0 p k.1 (of_kind g ks) (ap is_eq e) ∙ find_kind s p ks (second_so _ _ h)
      ] refl

  -- ---- a text

  put_over : (s t : List ℕ) (p : List (List ℕ)) (v : List ℕ) (nodes : Subtree) (rest : Content) → W s t ≡ Greater
      → put name_cmp (name g s p) v (of_word g t nodes ++ rest) ≡ of_word g t nodes ++ put name_cmp (name g s p) v rest
  put_over s t p v [] rest h = refl
  put_over s t p v (e ∷ es) rest h =
      ap (λ r. by_order r ((name g s p, v) ∷ (name g t e.0, e.1) ∷ (of_word g t es ++ rest)) ((name g t e.0, v) ∷ (of_word g t es ++ rest))
      ((name g t e.0, e.1) ∷ put name_cmp (name g s p) v (of_word g t es ++ rest))) (name_apart g s t p e.0 ∙ ap (λ r. ordering_then r (S p e.0)) h)
      ∙ ap (λ (r : Content). (name g t e.0, e.1) ∷ r) (put_over s t p v es rest h)

  put_first : (s : List ℕ) (p : List (List ℕ)) (v : List ℕ) (ks : Words) → T (below_all W s ks) → put name_cmp (name g s p) v (of_kind g ks) ≡ (name g s p, v) ∷ of_kind g ks
  put_first s p v [] h = refl
  put_first s p v ((t, []) ∷ ks) h = put_first s p v ks (second_so _ _ h)
  put_first s p v ((t, e ∷ es) ∷ ks) h =
      ap (λ r. by_order r ((name g s p, v) ∷ (name g t e.0, e.1) ∷ (of_word g t es ++ of_kind g ks)) ((name g t e.0, v) ∷ (of_word g t es ++ of_kind g ks))
      ((name g t e.0, e.1) ∷ put name_cmp (name g s p) v (of_word g t es ++ of_kind g ks))) (name_apart g s t p e.0 ∙ ap (λ r. ordering_then r (S p e.0)) (is_less _ (first_so _ _ h)))

  put_same : (s : List ℕ) (p : List (List ℕ)) (v : List ℕ) (nodes : Subtree) (ks : Words) → T (below_all W s ks)
      → put name_cmp (name g s p) v (of_word g s nodes ++ of_kind g ks) ≡ of_word g s (put S p v nodes) ++ of_kind g ks
  put_same s p v [] ks h = put_first s p v ks h
  put_same s p v (e ∷ es) ks h =
      ap (λ r. by_order r ((name g s p, v) ∷ (name g s e.0, e.1) ∷ (of_word g s es ++ of_kind g ks)) ((name g s e.0, v) ∷ (of_word g s es ++ of_kind g ks))
      ((name g s e.0, e.1) ∷ put name_cmp (name g s p) v (of_word g s es ++ of_kind g ks))) (name_apart g s s p e.0 ∙ ap (λ r. ordering_then r (S p e.0)) (tied_itself nat_list_cmp_total s))
      ∙ elim (S p e.0) as (λ r. by_order r ((name g s p, v) ∷ (name g s e.0, e.1) ∷ (of_word g s es ++ of_kind g ks)) ((name g s e.0, v) ∷ (of_word g s es ++ of_kind g ks))
      ((name g s e.0, e.1) ∷ put name_cmp (name g s p) v (of_word g s es ++ of_kind g ks)) ≡ of_word g s (by_order r ((p, v) ∷ e ∷ es) ((e.0, v) ∷ es) (e ∷ put S p v es)) ++ of_kind g ks) [
        | Less ↦ refl
        | Equal ↦ refl
        | Greater ↦ ap (λ (r : Content). (name g s e.0, e.1) ∷ r) (put_same s p v es ks h)
      ]

  -- a text goes into its word
  pub set_kind : (s : List ℕ) (p : List (List ℕ)) (v : List ℕ) (ks : Words) → T (is_sorted W ks)
      → after_set (of_kind g ks) (name g s p) v ≡ of_kind g (insert_entry W ks s (put S p v (nodes_of (lookup (is_at (W s)) ks))))
  set_kind s p v [] h = refl
  set_kind s p v (k ∷ ks) h =
      elim (W s k.0) as (λ r. W s k.0 ≡ r → put name_cmp (name g s p) v (of_word g k.0 k.1 ++ of_kind g ks)
      ≡ of_kind g (match_ordering r ((s, put S p v (nodes_of (cond (is_eq r) (Some k.1) (lookup (is_at (W s)) ks)))) ∷ k ∷ ks)
      ((k.0, put S p v (nodes_of (cond (is_eq r) (Some k.1) (lookup (is_at (W s)) ks)))) ∷ ks)
      (k ∷ insert_entry W ks s (put S p v (nodes_of (cond (is_eq r) (Some k.1) (lookup (is_at (W s)) ks))))))) [
        | Less ↦ λ e.
            let late = before_less W nat_list_cmp_total s k.0 ks e (first_so _ _ h) in
            put_first s p v (k ∷ ks) (subst (λ r. T (is_lt r && below_all W s ks)) (sym e) late)
            ∙ ap (λ (l : Option Subtree). of_word g s (put S p v (nodes_of l)) ++ (of_word g k.0 k.1 ++ of_kind g ks)) (sym (lookup_before W s ks late))
        | Equal ↦ λ e. ap (λ (t : List ℕ). put name_cmp (name g t p) v (of_word g k.0 k.1 ++ of_kind g ks)) (W_same s k.0 e) ∙ put_same k.0 p v k.1 ks (first_so _ _ h)
        | Greater ↦ λ e. put_over s k.0 p v k.1 (of_kind g ks) e ∙ ap (λ (r : Content). of_word g k.0 k.1 ++ r) (set_kind s p v ks (second_so _ _ h))
      ] refl

  -- ---- what goes

  kept_down : (s t : List ℕ) (p : List (List ℕ)) (nodes : Subtree) → after_kill (of_word g t nodes) (name g s p)
      ≡ of_word g t (filter (λ e. is_none (cond (is_eq (W s t)) (after_front subscript_cmp p e.0) None)) nodes)
  kept_down s t p [] = refl
  kept_down s t p (e ∷ es) =
      (λ i. cond (is_none (rest_apart g s t p e.0 i)) ((name g t e.0, e.1) ∷ kept_down s t p es i) (kept_down s t p es i))
      ∙ elim (is_none (cond (is_eq (W s t)) (after_front subscript_cmp p e.0) None)) as
      (λ b. cond b ((name g t e.0, e.1) ∷ of_word g t (filter (λ e. is_none (cond (is_eq (W s t)) (after_front subscript_cmp p e.0) None)) es))
      (of_word g t (filter (λ e. is_none (cond (is_eq (W s t)) (after_front subscript_cmp p e.0) None)) es))
      ≡ of_word g t (cond b (e ∷ filter (λ e. is_none (cond (is_eq (W s t)) (after_front subscript_cmp p e.0) None)) es)
      (filter (λ e. is_none (cond (is_eq (W s t)) (after_front subscript_cmp p e.0) None)) es))) [ true ↦ refl | false ↦ refl ]

  kept : (p : List (List ℕ)) (b : Bool) (nodes : Subtree) → filter (λ (e : List (List ℕ) × List ℕ). is_none (cond b (after_front subscript_cmp p e.0) None)) nodes
      ≡ cond b (without subscript_cmp p nodes) nodes
  kept p true nodes = refl
  kept p false [] = refl
  kept p false (e ∷ es) = ap (λ (r : Subtree). e ∷ r) (kept p false es)

  kill_word : (s t : List ℕ) (p : List (List ℕ)) (nodes : Subtree) → after_kill (of_word g t nodes) (name g s p) ≡ of_word g t (cond (is_eq (W s t)) (without subscript_cmp p nodes) nodes)
  kill_word s t p nodes = kept_down s t p nodes ∙ ap (of_word g t) (kept p (is_eq (W s t)) nodes)

  -- nothing goes where the word isn't there
  pub kill_none : (s : List ℕ) (p : List (List ℕ)) (ks : Words) → lookup (is_at (W s)) ks ≡ None → after_kill (of_kind g ks) (name g s p) ≡ of_kind g ks
  kill_none s p [] none = refl
  kill_none s p (k ∷ ks) none =
      kill-append (name g s p) (of_word g k.0 k.1) (of_kind g ks)
      ∙ ap (λ (xs : Content). xs ++ after_kill (of_kind g ks) (name g s p)) (kill_word s k.0 p k.1)
      ∙ elim (is_eq (W s k.0)) as (λ b. cond b (Some k.1) (lookup (is_at (W s)) ks) ≡ None
      → of_word g k.0 (cond b (without subscript_cmp p k.1) k.1) ++ after_kill (of_kind g ks) (name g s p) ≡ of_word g k.0 k.1 ++ of_kind g ks) [
        | true ↦ λ e. absurd cc
        | false ↦ λ e. ap (λ (xs : Content). of_word g k.0 k.1 ++ xs) (kill_none s p ks e)
      ] none

  -- else it goes from that word
  pub kill_some : (s : List ℕ) (p : List (List ℕ)) (ks : Words) (c : Subtree) → T (is_sorted W ks) → lookup (is_at (W s)) ks ≡ Some c
      → after_kill (of_kind g ks) (name g s p) ≡ of_kind g (set_value (is_at (W s)) ks (without subscript_cmp p c))
  kill_some s p [] c h there = absurd cc
  kill_some s p (k ∷ ks) c h there =
      kill-append (name g s p) (of_word g k.0 k.1) (of_kind g ks)
      ∙ ap (λ (xs : Content). xs ++ after_kill (of_kind g ks) (name g s p)) (kill_word s k.0 p k.1)
      ∙ elim (W s k.0) as (λ r. W s k.0 ≡ r → cond (is_eq r) (Some k.1) (lookup (is_at (W s)) ks) ≡ Some c
      → of_word g k.0 (cond (is_eq r) (without subscript_cmp p k.1) k.1) ++ after_kill (of_kind g ks) (name g s p)
      ≡ of_kind g (cond (is_eq r) ((k.0, without subscript_cmp p c) ∷ ks) (k ∷ set_value (is_at (W s)) ks (without subscript_cmp p c)))) [
        | Less ↦ λ e l. ap (λ (xs : Content). of_word g k.0 k.1 ++ xs) (kill_some s p ks c (second_so _ _ h) l)
        | Equal ↦ λ e l.
            let same : k.1 ≡ c = cc in
            (λ i. of_word g k.0 (without subscript_cmp p (same i)) ++ kill_none s p ks (lookup_before W s ks (tied_before W nat_list_cmp_total s k.0 ks e (first_so _ _ h))) i)
        | Greater ↦ λ e l. ap (λ (xs : Content). of_word g k.0 k.1 ++ xs) (kill_some s p ks c (second_so _ _ h) l)
      ] refl there

  -- a word that is left without a node may go
  pub kind_removed : (xs : Words) (s : List ℕ) → lookup (is_at (W s)) xs ≡ Some [] → of_kind g (remove_entry (is_at (W s)) xs) ≡ of_kind g xs
  kind_removed [] s there = refl
  kind_removed (k ∷ ks) s there =
      elim (is_eq (W s k.0)) as (λ b. cond b (Some k.1) (lookup (is_at (W s)) ks) ≡ Some [] → of_kind g (cond b ks (k ∷ remove_entry (is_at (W s)) ks)) ≡ of_word g k.0 k.1 ++ of_kind g ks) [
        | true ↦ λ e. let gone : k.1 ≡ [] = cc in ap (λ (n : Subtree). of_word g k.0 n ++ of_kind g ks) (sym gone)
        | false ↦ λ e. ap (λ (ys : Content). of_word g k.0 k.1 ++ ys) (kind_removed ks s e)
      ] there

  -- ---- texts that are put behind a name

  pub put_some : (s : List ℕ) (p : List (List ℕ)) (more : Subtree) (ks : Words) (c : Subtree) → T (is_sorted W ks) → lookup (is_at (W s)) ks ≡ Some c
      → after_put (of_kind g ks) (name g s p) more ≡ of_kind g (set_value (is_at (W s)) ks (put_behind subscript_cmp p more c))
  put_some s p [] ks c h there = ap (of_kind g) (sym (set_value_same W ks s c there))
  put_some s p (e ∷ es) ks c h there =
      let w : Subtree = put S (p ++ e.0) e.1 c in
      let one : after_set (of_kind g ks) (name g s (p ++ e.0)) e.1 ≡ of_kind g (set_value (is_at (W s)) ks w) =
      set_kind s (p ++ e.0) e.1 ks h
      ∙ ap (λ (l : Option Subtree). of_kind g (insert_entry W ks s (put S (p ++ e.0) e.1 (nodes_of l)))) there
      ∙ ap (of_kind g) (insert-set_value W nat_list_cmp_total ks s c w h there)
      in
      ap (λ (ns : Content). after_put ns (name g s p) es) one
      ∙ put_some s p es (set_value (is_at (W s)) ks w) w (sorted_set_value W nat_list_cmp_total ks s c w h there) (lookup_written W ks s c w there)
      ∙ ap (of_kind g) (set_value_twice W ks s w (put_behind subscript_cmp p es w))

  pub put_none : (s : List ℕ) (p : List (List ℕ)) (more : Subtree) (ks : Words) → T (is_sorted W ks) → lookup (is_at (W s)) ks ≡ None
      → after_put (of_kind g ks) (name g s p) more ≡ of_kind g (insert_entry W ks s (put_behind subscript_cmp p more []))
  put_none s p [] ks h none = sym (added_none ks none)
    where
      added_none : (xs : Words) → lookup (is_at (W s)) xs ≡ None → of_kind g (insert_entry W xs s []) ≡ of_kind g xs
      added_none [] l = refl
      added_none (k ∷ xs) l =
          elim (W s k.0) as (λ r. cond (is_eq r) (Some k.1) (lookup (is_at (W s)) xs) ≡ None
          → of_kind g (match_ordering r ((s, []) ∷ k ∷ xs) ((k.0, []) ∷ xs) (k ∷ insert_entry W xs s [])) ≡ of_word g k.0 k.1 ++ of_kind g xs) [
            | Less ↦ λ e. refl
            | Equal ↦ λ e. absurd cc
            | Greater ↦ λ e. ap (λ (ys : Content). of_word g k.0 k.1 ++ ys) (added_none xs e)
          ] l
  put_none s p (e ∷ es) ks h none =
      let w : Subtree = put S (p ++ e.0) e.1 [] in
      let one : after_set (of_kind g ks) (name g s (p ++ e.0)) e.1 ≡ of_kind g (insert_entry W ks s w) =
      set_kind s (p ++ e.0) e.1 ks h
      ∙ ap (λ (l : Option Subtree). of_kind g (insert_entry W ks s (put S (p ++ e.0) e.1 (nodes_of l)))) none
      in
      ap (λ (ns : Content). after_put ns (name g s p) es) one
      ∙ put_some s p es (insert_entry W ks s w) w (sorted_insert W nat_list_cmp_total ks s w h) (lookup_added W nat_list_cmp_total ks s w none)
      ∙ ap (of_kind g) (added_twice W nat_list_cmp_total ks s w (put_behind subscript_cmp p es w) none)
