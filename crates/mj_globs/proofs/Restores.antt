-- A text that is taken back among the names of a kind is taken back in one word.
use Rattle.std.proofs.Common.{◌≡◌, ℕ, Bool, true, false, cond, List, [], ◌∷◌, ◌++◌, Option, Some, None, Vec, Global, refl, sym, ap, ◌∙◌}
use Rattle.std.specs.Prelude.{T}
use Rattle.std.specs.declared.cmp.Ordering.{Ordering}
use Rattle.std.specs.declared.cmp.Ordering.TheVariants.{Less, Equal, Greater}
use Rattle.std.specs.Ordering.{is_eq, ordering_then}
use Rattle.std.specs.FinMap.{is_sorted}
use Rattle.std.specs.Map.{lookup, set_value, remove_entry}
use Rattle.std.specs.BTreeMap.{is_at}
use Rattle.std.proofs.lemmas.Cmp.{nat_list_cmp_total}
use Rattle.mj_subs.specs.Name.{Name}
use Rattle.mj_subs.specs.Collation.{name_cmp}
use Rattle.mj_store.specs.Questions.{Content, Subtree}
use Rattle.mj_tree.specs.Maps.{second_so, first_so, lookup_before, tied_before, lookup_written}
use Rattle.mj_tree.specs.Undo.{entry_before, restored}
use Rattle.mj_globs.specs.Words.{Words, spelled, name, of_word, of_kind, of_both}
use Rattle.mj_globs.proofs.Groups.{W, S, name_apart, kind_removed}
use Rattle.mj_globs.proofs.Spelled.{lookup_spelled, set_spelled}
use Rattle.mj_globs.proofs.Both.{joined}

apart : (r s : Ordering) → is_eq r ≡ false → is_eq (ordering_then r s) ≡ false
apart Less s h = refl
apart Equal s h = absurd cc
apart Greater s h = refl

module _ (g : Bool) where
  restored_over : (s t : List ℕ) (p : List (List ℕ)) (value : Option (List ℕ)) (nodes : Subtree) (rest : Content) → is_eq (W s t) ≡ false
      → restored name_cmp (name g s p) value (of_word g t nodes ++ rest) ≡ of_word g t nodes ++ restored name_cmp (name g s p) value rest
  restored_over s t p value [] rest h = refl
  restored_over s t p value (e ∷ es) rest h =
      ap (λ b. cond b (entry_before (name g t e.0) value (of_word g t es ++ rest)) ((name g t e.0, e.1) ∷ restored name_cmp (name g s p) value (of_word g t es ++ rest)))
      (ap is_eq (name_apart g s t p e.0) ∙ apart (W s t) (S p e.0) h)
      ∙ ap (λ (r : Content). (name g t e.0, e.1) ∷ r) (restored_over s t p value es rest h)

  -- nothing changes where the word isn't there
  pub restored_none : (s : List ℕ) (p : List (List ℕ)) (value : Option (List ℕ)) (ks : Words) → lookup (is_at (W s)) ks ≡ None → restored name_cmp (name g s p) value (of_kind g ks) ≡ of_kind g ks
  restored_none s p value [] none = refl
  restored_none s p value (k ∷ ks) none =
      elim (is_eq (W s k.0)) as (λ b. is_eq (W s k.0) ≡ b → cond b (Some k.1) (lookup (is_at (W s)) ks) ≡ None
      → restored name_cmp (name g s p) value (of_word g k.0 k.1 ++ of_kind g ks) ≡ of_word g k.0 k.1 ++ of_kind g ks) [
        | true ↦ λ e l. absurd cc
        | false ↦ λ e l. restored_over s k.0 p value k.1 (of_kind g ks) e ∙ ap (λ (r : Content). of_word g k.0 k.1 ++ r) (restored_none s p value ks l)
      ] refl none

  entry_of_word : (t : List ℕ) (k : List (List ℕ)) (value : Option (List ℕ)) (es : Subtree) (rest : Content)
      → entry_before (name g t k) value (of_word g t es ++ rest) ≡ of_word g t (entry_before k value es) ++ rest
  entry_of_word t k None es rest = refl
  entry_of_word t k (Some v) es rest = refl

  restored_in : (s t : List ℕ) (p : List (List ℕ)) (value : Option (List ℕ)) (nodes : Subtree) (rest : Content) → W s t ≡ Equal → restored name_cmp (name g s p) value rest ≡ rest
      → restored name_cmp (name g s p) value (of_word g t nodes ++ rest) ≡ of_word g t (restored S p value nodes) ++ rest
  restored_in s t p value [] rest e same = same
  restored_in s t p value (x ∷ xs) rest e same =
      ap (λ r. cond (is_eq r) (entry_before (name g t x.0) value (of_word g t xs ++ rest)) ((name g t x.0, x.1) ∷ restored name_cmp (name g s p) value (of_word g t xs ++ rest)))
      (name_apart g s t p x.0 ∙ ap (λ r. ordering_then r (S p x.0)) e)
      ∙ elim (is_eq (S p x.0)) as (λ b. cond b (entry_before (name g t x.0) value (of_word g t xs ++ rest)) ((name g t x.0, x.1) ∷ restored name_cmp (name g s p) value (of_word g t xs ++ rest))
      ≡ of_word g t (cond b (entry_before x.0 value xs) (x ∷ restored S p value xs)) ++ rest) [
        | true ↦ entry_of_word t x.0 value xs rest
        | false ↦ ap (λ (r : Content). (name g t x.0, x.1) ∷ r) (restored_in s t p value xs rest e same)
      ]

  -- else it changes in that word
  pub restored_some : (s : List ℕ) (p : List (List ℕ)) (value : Option (List ℕ)) (ks : Words) (c : Subtree) → T (is_sorted W ks) → lookup (is_at (W s)) ks ≡ Some c
      → restored name_cmp (name g s p) value (of_kind g ks) ≡ of_kind g (set_value (is_at (W s)) ks (restored S p value c))
  restored_some s p value [] c h there = absurd cc
  restored_some s p value (k ∷ ks) c h there =
      elim (W s k.0) as (λ r. W s k.0 ≡ r → cond (is_eq r) (Some k.1) (lookup (is_at (W s)) ks) ≡ Some c
      → restored name_cmp (name g s p) value (of_word g k.0 k.1 ++ of_kind g ks) ≡ of_kind g
      (cond (is_eq r) ((k.0, restored S p value c) ∷ ks) (k ∷ set_value (is_at (W s)) ks (restored S p value c)))) [
        | Less ↦ λ e l. restored_over s k.0 p value k.1 (of_kind g ks) (ap is_eq e) ∙ ap (λ (xs : Content). of_word g k.0 k.1 ++ xs) (restored_some s p value ks c (second_so _ _ h) l)
        | Equal ↦ λ e l.
            let same : k.1 ≡ c = cc in
            restored_in s k.0 p value k.1 (of_kind g ks) e (restored_none s p value ks (lookup_before W s ks (tied_before W nat_list_cmp_total s k.0 ks e (first_so _ _ h))))
            ∙ ap (λ (n : Subtree). of_word g k.0 (restored S p value n) ++ of_kind g ks) same
        | Greater ↦ λ e l. restored_over s k.0 p value k.1 (of_kind g ks) (ap is_eq e) ∙ ap (λ (xs : Content). of_word g k.0 k.1 ++ xs) (restored_some s p value ks c (second_so _ _ h) l)
      ] refl there

-- ---- words by their bytes

module _ (es fs : List (Vec ℕ Global × Subtree)) (key word : List ℕ) (same : key ≡ word) (p : List (List ℕ)) (value : Option (List ℕ)) (c w : Subtree)
    (there : lookup (is_at (λ (k : Vec ℕ Global). W key k.items)) es ≡ Some c) (written : fs ≡ set_value (is_at (λ (k : Vec ℕ Global). W key k.items)) es w) (h : T (is_sorted W (spelled es)))
    (is : w ≡ restored S p value c) where
  here : lookup (is_at (W word)) (spelled es) ≡ Some c
  here = ap (λ (s : List ℕ). lookup (is_at (W s)) (spelled es)) (sym same) ∙ sym (lookup_spelled (W key) es) ∙ there

  after : spelled fs ≡ set_value (is_at (W word)) (spelled es) w
  after = ap spelled written ∙ set_spelled (W key) es w ∙ ap (λ (s : List ℕ). set_value (is_at (W s)) (spelled es) w) same

  pub restore_there : (g : Bool) → of_kind g (spelled fs) ≡ restored name_cmp (name g word p) value (of_kind g (spelled es))
  restore_there g = ap (of_kind g) (after ∙ ap (set_value (is_at (W word)) (spelled es)) is) ∙ sym (restored_some g word p value (spelled es) c h here)

  pub restore_removed : (gs : List (Vec ℕ Global × Subtree)) → spelled gs ≡ remove_entry (is_at (W key)) (spelled fs) → w ≡ [] → (g : Bool)
      → of_kind g (spelled gs) ≡ restored name_cmp (name g word p) value (of_kind g (spelled es))
  restore_removed gs removed gone g =
      ap (of_kind g) removed
      ∙ kind_removed g (spelled fs) key (ap (λ (s : List ℕ). lookup (is_at (W s)) (spelled fs)) same ∙ ap (lookup (is_at (W word))) after ∙ lookup_written W (spelled es) word c w here
      ∙ ap (λ (n : Subtree). Some n) gone)
      ∙ restore_there g

pub restore_absent : (es fs : List (Vec ℕ Global × Subtree)) (key word : List ℕ) → key ≡ word → (p : List (List ℕ)) (value : Option (List ℕ))
    → lookup (is_at (λ (k : Vec ℕ Global). W key k.items)) es ≡ None → spelled fs ≡ spelled es → (g : Bool) → of_kind g (spelled fs) ≡ restored name_cmp (name g word p) value (of_kind g (spelled es))
restore_absent es fs key word same p value absent kept g =
    ap (of_kind g) kept ∙ sym (restored_none g word p value (spelled es) (ap (λ (s : List ℕ). lookup (is_at (W s)) (spelled es)) (sym same) ∙ sym (lookup_spelled (W key) es) ∙ absent))

-- ---- names of both kinds

module _ (w : List ℕ) (p : List (List ℕ)) (value : Option (List ℕ)) where
  not_word : (t : List ℕ) (nodes : Subtree) (rest : Content) → restored name_cmp (name true w p) value (of_word false t nodes ++ rest)
      ≡ of_word false t nodes ++ restored name_cmp (name true w p) value rest
  not_word t [] rest = refl
  not_word t (e ∷ es) rest = ap (λ (r : Content). (name false t e.0, e.1) ∷ r) (not_word t es rest)

  not_local : (ls : Words) → restored name_cmp (name true w p) value (of_kind false ls) ≡ of_kind false ls
  not_local [] = refl
  not_local (k ∷ ks) = not_word k.0 k.1 (of_kind false ks) ∙ ap (λ (r : Content). of_word false k.0 k.1 ++ r) (not_local ks)

  past_word : (t : List ℕ) (nodes : Subtree) (rest : Content) → restored name_cmp (name false w p) value (of_word true t nodes ++ rest)
      ≡ of_word true t nodes ++ restored name_cmp (name false w p) value rest
  past_word t [] rest = refl
  past_word t (e ∷ es) rest = ap (λ (r : Content). (name true t e.0, e.1) ∷ r) (past_word t es rest)

  past_globals : (gs : Words) (rest : Content) → restored name_cmp (name false w p) value (of_kind true gs ++ rest) ≡ of_kind true gs ++ restored name_cmp (name false w p) value rest
  past_globals [] rest = refl
  past_globals (k ∷ ks) rest =
      ap (restored name_cmp (name false w p) value) (joined (of_word true k.0 k.1) (of_kind true ks) rest)
      ∙ past_word k.0 k.1 (of_kind true ks ++ rest)
      ∙ ap (λ (r : Content). of_word true k.0 k.1 ++ r) (past_globals ks rest)
      ∙ sym (joined (of_word true k.0 k.1) (of_kind true ks) (restored name_cmp (name false w p) value rest))

  entry_append : (k : Name) (v : Option (List ℕ)) (xs ys : Content) → entry_before k v (xs ++ ys) ≡ entry_before k v xs ++ ys
  entry_append k None xs ys = refl
  entry_append k (Some v) xs ys = refl

  before_locals : (xs : Content) (ls : Words) → restored name_cmp (name true w p) value (xs ++ of_kind false ls) ≡ restored name_cmp (name true w p) value xs ++ of_kind false ls
  before_locals [] ls = not_local ls
  before_locals (x ∷ xs) ls =
      elim (is_eq (name_cmp (name true w p) x.0)) as (λ b. cond b (entry_before x.0 value (xs ++ of_kind false ls)) (x ∷ restored name_cmp (name true w p) value (xs ++ of_kind false ls))
      ≡ cond b (entry_before x.0 value xs) (x ∷ restored name_cmp (name true w p) value xs) ++ of_kind false ls) [
        | true ↦ entry_append x.0 value xs (of_kind false ls)
        | false ↦ ap (λ (r : Content). x ∷ r) (before_locals xs ls)
      ]

module _ (gs ls : Words) (n : Name) (value : Option (List ℕ)) where
  pub restore_globals : (hs : Words) → true ≡ n.global → ((g : Bool) → of_kind g hs ≡ restored name_cmp (name g n.word n.subscripts) value (of_kind g gs))
      → of_both hs ls ≡ restored name_cmp n value (of_both gs ls)
  restore_globals hs is changed =
      ap (λ (xs : Content). xs ++ of_kind false ls) (changed true) ∙ sym (before_locals n.word n.subscripts value (of_kind true gs) ls)
      ∙ ap (λ g. restored name_cmp (name g n.word n.subscripts) value (of_both gs ls)) is

  pub restore_locals : (ms : Words) → false ≡ n.global → ((g : Bool) → of_kind g ms ≡ restored name_cmp (name g n.word n.subscripts) value (of_kind g ls))
      → of_both gs ms ≡ restored name_cmp n value (of_both gs ls)
  restore_locals ms is changed =
      ap (λ (xs : Content). of_kind true gs ++ xs) (changed false) ∙ sym (past_globals n.word n.subscripts value gs (of_kind false ls))
      ∙ ap (λ g. restored name_cmp (name g n.word n.subscripts) value (of_both gs ls)) is
