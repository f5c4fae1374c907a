-- A list of changes is the texts that it gives, and then the names that it takes, where nothing is given below a name that goes.
use Rattle.std.proofs.Common.{◌≡◌, ℕ, Bool, true, false, cond, not, nat_eq, ◌||◌, List, [], ◌∷◌, Option, Some, None, refl, sym, ap, ◌∙◌, arith}
use Rattle.std.specs.Prelude.{T}
use Rattle.std.specs.declared.cmp.Ordering.TheVariants.{Equal}
use Rattle.std.specs.Ordering.{is_eq, eq_by_cmp}
use Rattle.std.specs.FinMap.{find, is_sorted}
use Rattle.std.specs.FinMap.Entries.{find-put, find-where_key, same_entries}
use Rattle.std.specs.List.{list_any, cons_option}
use Rattle.std.specs.Option.{is_none, is_some, option_map}
use Rattle.std.proofs.lemmas.Bool.{eqb-true}
use Rattle.mj_subs.specs.Name.{Name}
use Rattle.mj_subs.specs.Collation.{name_cmp}
use Rattle.mj_subs.specs.Laws.Total.{name_cmp_total}
use Rattle.mj_subs.specs.Laws.Ties.{name_cmp-IsAntisymmetric}
use Rattle.mj_store.specs.Nodes.{data_of}
use Rattle.mj_store.specs.Questions.{Content, Subtree, data_at, rest_of, subtree_at}
use Rattle.mj_store.specs.Changes.{after_set, after_kill, after_put, followed_by}
use Rattle.mj_globs.specs.declared.change.Change.{Change}
use Rattle.mj_globs.specs.declared.change.Change.TheVariants as change
use Rattle.mj_globs.specs.Changes.{after_changes}
use Rattle.mj_globs.specs.Parts.{all_given, all_taken, takes, is_kill, is_rewritten}
use Rattle.mj_globs.proofs.Both.{rises_set, rises_kill, rises_put}

-- ---- the names rise

pub rises_changes : (es : Content) (xs : List Change) → T (is_sorted name_cmp es) → T (is_sorted name_cmp (after_changes es xs))
rises_changes es [] h = h
rises_changes es (change.Set n v ∷ xs) h = rises_changes (after_set es n v) xs (rises_set es n v h)
rises_changes es (change.Kill n ∷ xs) h = rises_changes (after_kill es n) xs (rises_kill es n h)
rises_changes es (change.Put n more ∷ xs) h = rises_changes (after_put es n more) xs (rises_put es n more h)

pub rises_given : (es : Content) (xs : List Change) → T (is_sorted name_cmp es) → T (is_sorted name_cmp (all_given es xs))
rises_given es [] h = h
rises_given es (change.Set n v ∷ xs) h = rises_given (after_set es n v) xs (rises_set es n v h)
rises_given es (change.Kill n ∷ xs) h = rises_given es xs h
rises_given es (change.Put n more ∷ xs) h = rises_given (after_put es n more) xs (rises_put es n more h)

rises_taken : (es : Content) (xs : List Change) → T (is_sorted name_cmp es) → T (is_sorted name_cmp (all_taken es xs))
rises_taken es [] h = h
rises_taken es (change.Set n v ∷ xs) h = rises_taken es xs h
rises_taken es (change.Kill n ∷ xs) h = rises_taken (after_kill es n) xs (rises_kill es n h)
rises_taken es (change.Put n more ∷ xs) h = rises_taken es xs h

-- ---- the text of one name

module _ (m : Name) where
  -- whether one of the changes takes it
  abbrev goes : List Change → Bool
  goes xs = list_any (takes m) xs

  pub find_killed : (c : Content) (n : Name) → find name_cmp m (after_kill c n) ≡ cond (is_none (rest_of n m)) (find name_cmp m c) None
  find_killed c n = find-where_key name_cmp (λ k. is_none (rest_of n k)) m (λ x e. ap (λ k. is_none (rest_of n k)) (sym (name_cmp-IsAntisymmetric m x e))) c

  same_set : (c d : Content) (n : Name) (v : List ℕ) → find name_cmp m c ≡ find name_cmp m d → find name_cmp m (after_set c n v) ≡ find name_cmp m (after_set d n v)
  same_set c d n v e = find-put name_cmp name_cmp_total m n v c ∙ ap (cond (eq_by_cmp name_cmp m n) (Some v)) e ∙ sym (find-put name_cmp name_cmp_total m n v d)

  same_put : (c d : Content) (n : Name) (more : Subtree) → find name_cmp m c ≡ find name_cmp m d → find name_cmp m (after_put c n more) ≡ find name_cmp m (after_put d n more)
  same_put c d n [] e = e
  same_put c d n (x ∷ more) e = same_put (after_set c (followed_by n x.0) x.1) (after_set d (followed_by n x.0) x.1) n more (same_set c d (followed_by n x.0) x.1 e)

  same_given : (c d : Content) (xs : List Change) → find name_cmp m c ≡ find name_cmp m d → find name_cmp m (all_given c xs) ≡ find name_cmp m (all_given d xs)
  same_given c d [] e = e
  same_given c d (change.Set n v ∷ xs) e = same_given (after_set c n v) (after_set d n v) xs (same_set c d n v e)
  same_given c d (change.Kill n ∷ xs) e = same_given c d xs e
  same_given c d (change.Put n more ∷ xs) e = same_given (after_put c n more) (after_put d n more) xs (same_put c d n more e)

  find_taken : (c : Content) (xs : List Change) → find name_cmp m (all_taken c xs) ≡ cond (goes xs) None (find name_cmp m c)
  find_taken c [] = refl
  find_taken c (change.Set n v ∷ xs) = find_taken c xs
  find_taken c (change.Put n more ∷ xs) = find_taken c xs
  find_taken c (change.Kill n ∷ xs) =
      find_taken (after_kill c n) xs
      ∙ ap (λ (t : Option (List ℕ)). cond (goes xs) None t) (find_killed c n)
      ∙ elim (rest_of n m) as (λ r. cond {A = Option (List ℕ)} (goes xs) None (cond (is_none r) (find name_cmp m c) None)
      ≡ cond {A = Option (List ℕ)} (is_some r || goes xs) None (find name_cmp m c)) [
        | None ↦ refl
        | Some l ↦ elim (goes xs) as (λ b. cond {A = Option (List ℕ)} b None None ≡ None) [ true ↦ refl | false ↦ refl ]
      ]

  found_as_given : (c f : Content) (n : Name) (xs : List Change) → ((d : Content)
      → find name_cmp m (after_changes d xs) ≡ cond (goes xs) (find name_cmp m (after_changes d xs)) (find name_cmp m (all_given d xs))) → (r : Option (List (List ℕ))) → rest_of n m ≡ r
      → cond (goes xs) (find name_cmp m (after_changes (after_kill f n) xs)) (find name_cmp m (all_given (after_kill c n) xs))
      ≡ cond (is_some r || goes xs) (find name_cmp m (after_changes (after_kill f n) xs)) (find name_cmp m (all_given c xs))
  found_as_given c f n xs each None e =
      ap (cond (goes xs) (find name_cmp m (after_changes (after_kill f n) xs))) (same_given (after_kill c n) c xs
      (find_killed c n ∙ ap (λ (r : Option (List (List ℕ))). cond (is_none r) (find name_cmp m c) None) e))
  found_as_given c f n xs each (Some l) e =
      elim (goes xs) as (λ b. goes xs ≡ b → cond b (find name_cmp m (after_changes (after_kill f n) xs)) (find name_cmp m (all_given (after_kill c n) xs))
      ≡ find name_cmp m (after_changes (after_kill f n) xs)) [
        | true ↦ λ q. refl
        | false ↦ λ q.
            same_given (after_kill c n) (after_kill f n) xs (find_killed c n ∙ ap (λ (r : Option (List (List ℕ))). cond (is_none r) (find name_cmp m c) None) e
            ∙ sym (find_killed f n ∙ ap (λ (r : Option (List (List ℕ))). cond (is_none r) (find name_cmp m f) None) e))
            ∙ sym (each (after_kill f n) ∙ ap (λ b. cond b (find name_cmp m (after_changes (after_kill f n) xs)) (find name_cmp m (all_given (after_kill f n) xs))) q)
      ] refl

  -- a name that goes has the text that the changes give it where nothing was before, and every other the last that they give it
  pub find_changes : (c f : Content) (xs : List Change) → find name_cmp m (after_changes c xs) ≡ cond (goes xs) (find name_cmp m (after_changes f xs)) (find name_cmp m (all_given c xs))
  find_changes c f [] = refl
  find_changes c f (change.Set n v ∷ xs) = find_changes (after_set c n v) (after_set f n v) xs
  find_changes c f (change.Put n more ∷ xs) = find_changes (after_put c n more) (after_put f n more) xs
  find_changes c f (change.Kill n ∷ xs) = find_changes (after_kill c n) (after_kill f n) xs ∙ found_as_given c f n xs (λ d. find_changes d d xs) (rest_of n m) refl

  -- ---- where nothing stands at a name or below it

  none_there : (nodes : Subtree) → data_of nodes ≡ 0 → nodes ≡ []
  none_there [] e = refl
  none_there (([], v) ∷ es) e = absurd (omega (arith, e))
  none_there ((s ∷ p, v) ∷ es) e = absurd (omega (arith, e))

  no_text : (c : Content) (n : Name) → subtree_at c n ≡ [] → is_some (rest_of n m) ≡ true → find name_cmp m c ≡ None
  no_text [] n e h = refl
  no_text (x ∷ xs) n e h =
      elim (rest_of n x.0) as (λ r. rest_of n x.0 ≡ r → cons_option (option_map (λ l. (l, x.1)) r) (subtree_at xs n) ≡ [] → cond (eq_by_cmp name_cmp m x.0) (Some x.1) (find name_cmp m xs) ≡ None) [
        | Some l ↦ λ q l. absurd cc
        | None ↦ λ q rest.
            elim (name_cmp m x.0) as (λ r. name_cmp m x.0 ≡ r → cond (is_eq r) (Some x.1) (find name_cmp m xs) ≡ None) [
              | Equal ↦ λ t. let none : is_some (rest_of n m) ≡ false = ap (λ k. is_some (rest_of n k)) (name_cmp-IsAntisymmetric m x.0 t) ∙ ap is_some q in absurd cc
              | _ ↦ λ t. no_text xs n rest h
            ] refl
      ] refl e

  -- a name that goes has no text among what the changes leave alone, where none is rewritten
  gone : (c : Content) (xs : List Change) → list_any (is_rewritten c) xs ≡ false → goes xs ≡ true → find name_cmp m c ≡ None
  gone c [] none h = absurd cc
  gone c (change.Set n v ∷ xs) none h = gone c xs none h
  gone c (change.Put n more ∷ xs) none h = gone c xs none h
  gone c (change.Kill n ∷ xs) none h =
      elim (nat_eq (data_at c n) 0) as (λ b. nat_eq (data_at c n) 0 ≡ b → (not b || list_any (is_rewritten c) xs) ≡ false → find name_cmp m c ≡ None) [
        | false ↦ λ q e. absurd cc
        | true ↦ λ q e.
            elim (is_some (rest_of n m)) as (λ b. is_some (rest_of n m) ≡ b → (b || goes xs) ≡ true → find name_cmp m c ≡ None) [
              | true ↦ λ t g. no_text c n (none_there (subtree_at c n) (eqb-true _ _ q)) t
              | false ↦ λ t g. gone c xs e g
            ] refl h
      ] refl none

-- the texts first, and then the names that go
pub in_two : (old : Content) (xs : List Change) (alone mid new : Content) → T (is_sorted name_cmp old) → alone ≡ after_changes [] xs → false ≡ list_any (is_rewritten alone) xs → mid ≡ all_given old xs
    → new ≡ all_taken mid xs → new ≡ after_changes old xs
in_two old xs alone mid new h by none first then =
    then ∙ ap (λ (es : Content). all_taken es xs) first
    ∙ same_entries name_cmp name_cmp_total name_cmp-IsAntisymmetric (all_taken (all_given old xs) xs) (after_changes old xs) (rises_taken (all_given old xs) xs (rises_given old xs h))
    (rises_changes old xs h) (λ m.
    find_taken m (all_given old xs) xs
    ∙ elim (list_any (takes m) xs) as (λ b. list_any (takes m) xs ≡ b → cond b None (find name_cmp m (all_given old xs))
    ≡ cond b (find name_cmp m (after_changes [] xs)) (find name_cmp m (all_given old xs))) [
      | true ↦ λ q. sym (gone m (after_changes [] xs) xs (ap (λ (c : Content). list_any (is_rewritten c) xs) (sym by) ∙ sym none) q)
      | false ↦ λ q. refl
    ] refl
    ∙ sym (find_changes m old [] xs))

-- where no name goes the texts are all
given_alone : (old : Content) (xs : List Change) → list_any is_kill xs ≡ false → all_given old xs ≡ after_changes old xs
given_alone old [] none = refl
given_alone old (change.Set n v ∷ xs) none = given_alone (after_set old n v) xs none
given_alone old (change.Kill n ∷ xs) none = absurd cc
given_alone old (change.Put n more ∷ xs) none = given_alone (after_put old n more) xs none

pub in_one : (old : Content) (xs : List Change) (new : Content) → false ≡ list_any is_kill xs → new ≡ all_given old xs → new ≡ after_changes old xs
in_one old xs new none is = is ∙ given_alone old xs (sym none)
