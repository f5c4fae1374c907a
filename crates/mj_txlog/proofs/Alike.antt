-- Contents that are alike at a name and below it stay so.
use Rattle.std.proofs.Common.{◌≡◌, ℕ, ◌+◌, ◌<◌, true, false, cond, ◌&&◌, ◌||◌, List, [], ◌∷◌, ◌++◌, length, get_or, take, Option, Some, None, refl, sym, ap, ◌∙◌}
use Rattle.std.specs.Prelude.{T}
use Rattle.std.specs.declared.cmp.Ordering.TheVariants.{Less, Equal, Greater}
use Rattle.std.specs.Ordering.{is_eq, eq_by_cmp}
use Rattle.std.specs.Cmp.{tied_itself}
use Rattle.std.specs.FinMap.{find, is_sorted}
use Rattle.std.specs.FinMap.Entries.{find-put, find-where_key, below_all}
use Rattle.std.specs.List.{list_any, cons_option}
use Rattle.std.specs.Option.{is_none, is_some, option_map}
use Rattle.std.proofs.lemmas.List.{take_more}
use Rattle.mj_subs.specs.Name.{Name, overlaps}
use Rattle.mj_subs.specs.Collation.{name_cmp}
use Rattle.mj_subs.specs.Laws.Total.{name_cmp_total}
use Rattle.mj_subs.specs.Laws.Ties.{name_cmp-IsAntisymmetric}
use Rattle.mj_store.specs.Questions.{Content, Subtree, rest_of, subtree_at}
use Rattle.mj_store.specs.Changes.{after_set, after_kill, after_put, followed_by, is_too_deep}
use Rattle.mj_store.specs.Runs.{name_of, after_access, after_accesses}
use Rattle.mj_store.specs.declared.access.Access.{Access}
use Rattle.mj_store.specs.declared.access.Access.TheVariants as access
use Rattle.mj_tree.specs.Maps.{first_so, second_so, is_less}
use Rattle.mj_txlog.specs.declared.entry.Entry.{Entry}
use Rattle.mj_txlog.specs.declared.entry.Entry.TheVariants as entry
use Rattle.mj_txlog.specs.Accesses.{Accesses, is_write, writes_of, seen}
use Rattle.mj_txlog.specs.Sight.{meets, AreAlike}
use Rattle.mj_txlog.proofs.Fronts.{rest_split, rest_itself, rest_followed, overlap_above}

-- ---- one access more

accesses_more : (xs ys : List Access) (c : Content) → after_accesses (xs ++ ys) c ≡ after_accesses ys (after_accesses xs c)
accesses_more [] ys c = refl
accesses_more (x ∷ xs) ys c = accesses_more xs ys (after_access x c)

writes_more : (xs : Accesses) (e : Entry) → writes_of (xs ++ e ∷ []) ≡ writes_of xs ++ writes_of (e ∷ [])
writes_more [] e = refl
writes_more (entry.Unlock u ∷ xs) e = writes_more xs e
writes_more (entry.Access a r ∷ xs) e =
    elim (is_write a) as (λ b. cond b (a ∷ writes_of (xs ++ e ∷ [])) (writes_of (xs ++ e ∷ [])) ≡ cond b (a ∷ writes_of xs) (writes_of xs) ++ writes_of (e ∷ [])) [
      | true ↦ ap (λ (ws : List Access). a ∷ ws) (writes_more xs e)
      | false ↦ writes_more xs e
    ]

pub seen_more : (g : Content) (xs : Accesses) (e : Entry) → seen g (xs ++ e ∷ []) ≡ seen (seen g xs) (e ∷ [])
seen_more g xs e = ap (λ (ws : List Access). after_accesses ws g) (writes_more xs e) ∙ accesses_more (writes_of xs) (writes_of (e ∷ [])) g

-- ---- the text of one name

module _ (m : Name) where
  pub find_killed : (c : Content) (n : Name) → find name_cmp m (after_kill c n) ≡ cond (is_none (rest_of n m)) (find name_cmp m c) None
  find_killed c n = find-where_key name_cmp (λ k. is_none (rest_of n k)) m (λ x e. ap (λ k. is_none (rest_of n k)) (sym (name_cmp-IsAntisymmetric m x e))) c

  pub find_set : (c : Content) (n : Name) (v : List ℕ) → find name_cmp m (after_set c n v) ≡ cond (eq_by_cmp name_cmp m n) (Some v) (find name_cmp m c)
  find_set c n v = find-put name_cmp name_cmp_total m n v c

  pub same_set : (c d : Content) (n : Name) (v : List ℕ) → find name_cmp m c ≡ find name_cmp m d → find name_cmp m (after_set c n v) ≡ find name_cmp m (after_set d n v)
  same_set c d n v e = find_set c n v ∙ ap (cond (eq_by_cmp name_cmp m n) (Some v)) e ∙ sym (find_set d n v)

  same_put : (c d : Content) (n : Name) (more : Subtree) → find name_cmp m c ≡ find name_cmp m d → find name_cmp m (after_put c n more) ≡ find name_cmp m (after_put d n more)
  same_put c d n [] e = e
  same_put c d n (x ∷ more) e = same_put (after_set c (followed_by n x.0) x.1) (after_set d (followed_by n x.0) x.1) n more (same_set c d (followed_by n x.0) x.1 e)

  -- an access leaves the same text where the same was before
  pub same_access : (a : Access) (c d : Content) → find name_cmp m c ≡ find name_cmp m d → find name_cmp m (after_access a c) ≡ find name_cmp m (after_access a d)
  same_access (access.Value n) c d e = e
  same_access (access.Data n) c d e = e
  same_access (access.Order n way) c d e = e
  same_access (access.Query n) c d e = e
  same_access (access.Subtree n) c d e = e
  same_access (access.Set n v) c d e = same_set c d n v e
  same_access (access.Kill n) c d e = find_killed c n ∙ ap (λ (t : Option (List ℕ)). cond (is_none (rest_of n m)) t None) e ∙ sym (find_killed d n)
  same_access (access.Put n nodes) c d e =
      elim (is_too_deep n nodes) as (λ b. find name_cmp m (cond b c (after_put c n nodes)) ≡ find name_cmp m (cond b d (after_put d n nodes))) [ true ↦ e | false ↦ same_put c d n nodes e ]

  -- names that tie are the same
  pub tied : (k : Name) → eq_by_cmp name_cmp m k ≡ true → m ≡ k
  tied k e = elim (name_cmp m k) as (λ r. name_cmp m k ≡ r → is_eq r ≡ true → m ≡ k) [ Less ↦ λ p q. absurd cc | Equal ↦ λ p q. name_cmp-IsAntisymmetric m k p | Greater ↦ λ p q. absurd cc ] refl e

  module _ (n : Name) (b : List (List ℕ)) (below : rest_of n m ≡ Some b) where
    -- a text that is given elsewhere changes nothing here
    unset : (k : Name) (l : List (List ℕ)) (x : Name) (c : Content) (v : List ℕ) → rest_of k x ≡ Some l → overlaps k n ≡ false → find name_cmp m (after_set c x v) ≡ find name_cmp m c
    unset k l x c v at apart =
        find_set c x v
        ∙ elim (eq_by_cmp name_cmp m x) as (λ t. eq_by_cmp name_cmp m x ≡ t → cond t (Some v) (find name_cmp m c) ≡ find name_cmp m c) [
          | true ↦ λ q. let meets : overlaps k n ≡ true = overlap_above k n m l b (ap (rest_of k) (tied x q) ∙ at) below in absurd (cc)
          | false ↦ λ q. refl
        ] refl

    unput : (k : Name) (more : Subtree) (c : Content) → overlaps k n ≡ false → find name_cmp m (after_put c k more) ≡ find name_cmp m c
    unput k [] c apart = refl
    unput k (x ∷ more) c apart = unput k more (after_set c (followed_by k x.0) x.1) apart ∙ unset k x.0 (followed_by k x.0) c x.1 (rest_followed k x.0) apart

    unkill : (k : Name) (c : Content) → overlaps k n ≡ false → find name_cmp m (after_kill c k) ≡ find name_cmp m c
    unkill k c apart =
        find_killed c k
        ∙ elim (rest_of k m) as (λ r. rest_of k m ≡ r → cond (is_none r) (find name_cmp m c) None ≡ find name_cmp m c) [
          | None ↦ λ q. refl
          | Some l ↦ λ q. let meets : overlaps k n ≡ true = overlap_above k n m l b q below in absurd (cc)
        ] refl

    -- nor does any access that doesn't meet the name
    pub unmet : (a : Access) (c : Content) → overlaps (name_of a) n ≡ false → find name_cmp m (after_access a c) ≡ find name_cmp m c
    unmet (access.Value k) c apart = refl
    unmet (access.Data k) c apart = refl
    unmet (access.Order k way) c apart = refl
    unmet (access.Query k) c apart = refl
    unmet (access.Subtree k) c apart = refl
    unmet (access.Set k v) c apart = unset k [] k c v (rest_itself k) apart
    unmet (access.Kill k) c apart = unkill k c apart
    unmet (access.Put k nodes) c apart =
        elim (is_too_deep k nodes) as (λ t. find name_cmp m (cond t c (after_put c k nodes)) ≡ find name_cmp m c) [ true ↦ refl | false ↦ unput k nodes c apart ]

    -- the first of two texts that is there
    abbrev pub first_found : Option (List ℕ) → Option (List ℕ) → Option (List ℕ)
    first_found None w = w
    first_found (Some v) w = Some v

    nothing_there : (s : Name) (ks : Content) → T (below_all name_cmp s ks) → find name_cmp s ks ≡ None
    nothing_there s [] h = refl
    nothing_there s (k ∷ ks) h = ap (λ r. cond (is_eq r) (Some k.1) (find name_cmp s ks)) (is_less _ (first_so _ _ h)) ∙ nothing_there s ks (second_so _ _ h)

    -- what stands below the name, put there over another content
    pub filled : (g c : Content) → T (is_sorted name_cmp g) → find name_cmp m (after_put c n (subtree_at g n)) ≡ first_found (find name_cmp m g) (find name_cmp m c)
    filled [] c h = refl
    filled (x ∷ g) c h =
        elim (rest_of n x.0) as (λ r. rest_of n x.0 ≡ r → find name_cmp m (after_put c n (cons_option (option_map (λ l. (l, x.1)) r) (subtree_at g n)))
        ≡ first_found (cond (eq_by_cmp name_cmp m x.0) (Some x.1) (find name_cmp m g)) (find name_cmp m c)) [
          | None ↦ λ e.
              filled g c (second_so _ _ h)
              ∙ elim (eq_by_cmp name_cmp m x.0) as (λ t. eq_by_cmp name_cmp m x.0 ≡ t → first_found (find name_cmp m g) (find name_cmp m c)
              ≡ first_found (cond t (Some x.1) (find name_cmp m g)) (find name_cmp m c)) [
                | true ↦ λ q. let none : rest_of n m ≡ None = ap (rest_of n) (tied x.0 q) ∙ e in absurd (cc)
                | false ↦ λ q. refl
              ] refl
          | Some l ↦ λ e.
              filled g (after_set c (followed_by n l) x.1) (second_so _ _ h)
              ∙ ap (first_found (find name_cmp m g)) (find_set c (followed_by n l) x.1 ∙ ap (λ (k : Name). cond (eq_by_cmp name_cmp m k) (Some x.1) (find name_cmp m c)) (rest_split n x.0 l e))
              ∙ elim (eq_by_cmp name_cmp m x.0) as (λ t. eq_by_cmp name_cmp m x.0 ≡ t → first_found (find name_cmp m g) (cond t (Some x.1) (find name_cmp m c))
              ≡ first_found (cond t (Some x.1) (find name_cmp m g)) (find name_cmp m c)) [
                | true ↦ λ q.
                    let none : find name_cmp m g ≡ None = ap (λ (k : Name). find name_cmp k g) (tied x.0 q) ∙ nothing_there x.0 g (first_so _ _ h) in
                    ap (λ (t : Option (List ℕ)). first_found t (Some x.1)) none
                | false ↦ λ q. refl
              ] refl
        ] refl

    found_alone : (t : Option (List ℕ)) → first_found t None ≡ t
    found_alone None = refl
    found_alone (Some v) = refl

    pub filled_alone : (g : Content) → T (is_sorted name_cmp g) → find name_cmp m (after_put [] n (subtree_at g n)) ≡ find name_cmp m g
    filled_alone g h = filled g [] h ∙ found_alone (find name_cmp m g)

-- ---- contents

module _ (n : Name) where
  -- what holds of each name at n or below it
  pub at_each : {P : Name → Type 0} → ((m : Name) (b : List (List ℕ)) → rest_of n m ≡ Some b → P m) → (m : Name) → is_some (rest_of n m) ≡ true → P m
  at_each {P} f m h = elim (rest_of n m) as (λ r. rest_of n m ≡ r → is_some r ≡ true → P m) [ None ↦ λ e s. absurd cc | Some b ↦ λ e s. f m b e ] refl h

  -- the store that is filled with what stands below n is alike
  pub start_alike : (g new : Content) → T (is_sorted name_cmp g) → new ≡ after_put [] n (subtree_at g n) → AreAlike n new (seen g [])
  start_alike g new h is = at_each (λ m b e. ap (find name_cmp m) is ∙ filled_alone m n b e g h)

  -- one access more on both
  step_one : (m : Name) (b : List (List ℕ)) → rest_of n m ≡ Some b → (e : Entry) (c d : Content) → find name_cmp m c ≡ find name_cmp m d
      → find name_cmp m (cond (meets n e) (seen c (e ∷ [])) c) ≡ find name_cmp m (seen d (e ∷ []))
  step_one m b below (entry.Unlock u) c d is = is
  step_one m b below (entry.Access a r) c d is =
      elim (is_write a) as (λ w. find name_cmp m (cond (w && overlaps (name_of a) n) (after_accesses (cond w (a ∷ []) []) c) c) ≡ find name_cmp m (after_accesses (cond w (a ∷ []) []) d)) [
        | false ↦ is
        | true ↦ elim (overlaps (name_of a) n) as (λ o. overlaps (name_of a) n ≡ o → find name_cmp m (cond o (after_access a c) c) ≡ find name_cmp m (after_access a d)) [
          | true ↦ λ q. same_access m a c d is
          | false ↦ λ q. is ∙ sym (unmet m n b below a d q)
        ] refl
      ]

  step_alike : (e : Entry) (c d : Content) → AreAlike n c d → AreAlike n (cond (meets n e) (seen c (e ∷ [])) c) (seen d (e ∷ []))
  step_alike e c d h = at_each (λ m b below. step_one m b below e c d (h m (ap is_some below)))

  seen_next : (m : Name) (g : Content) (es : Accesses) (i : ℕ) (e : Entry) → i < length es → e ≡ get_or es i e
      → find name_cmp m (seen (seen g (take i es)) (e ∷ [])) ≡ find name_cmp m (seen g (take (i + 1) es))
  seen_next m g es i e lt here =
      ap (find name_cmp m) (sym (seen_more g (take i es) e) ∙ ap (λ (ys : Accesses). seen g ys) (ap (λ (y : Entry). take i es ++ y ∷ []) here ∙ sym (take_more es i e lt)))

  -- the text of n itself
  pub next_text : (g : Content) (es : Accesses) (i : ℕ) (e : Entry) (now next : Content) → i < length es → e ≡ get_or es i e → find name_cmp n now ≡ find name_cmp n (seen g (take i es))
      → next ≡ cond (meets n e) (seen now (e ∷ [])) now → find name_cmp n next ≡ find name_cmp n (seen g (take (i + 1) es))
  next_text g es i e now next lt here h is =
      ap (find name_cmp n) is ∙ step_one n [] (rest_itself n) e now (seen g (take i es)) h ∙ seen_next n g es i e lt here

  pub text_set : (c : Content) (v : List ℕ) → find name_cmp n (after_set c n v) ≡ Some v
  text_set c v = find_set n c n v ∙ ap (λ r. cond (is_eq r) (Some v) (find name_cmp n c)) (tied_itself name_cmp_total n)

  pub next_alike : (g : Content) (es : Accesses) (i : ℕ) (e : Entry) (now next : Content) → i < length es → e ≡ get_or es i e → AreAlike n now (seen g (take i es))
      → next ≡ cond (meets n e) (seen now (e ∷ [])) now → AreAlike n next (seen g (take (i + 1) es))
  next_alike g es i e now next lt here h is m at =
      ap (find name_cmp m) is
      ∙ step_alike e now (seen g (take i es)) h m at
      ∙ seen_next m g es i e lt here

  -- writes that don't meet n leave all as it was there
  pub unmet_alike : (g : Content) (es : Accesses) → list_any (meets n) es ≡ false → AreAlike n g (seen g es)
  unmet_alike g [] none m at = refl
  unmet_alike g (entry.Unlock u ∷ es) none m at = unmet_alike g es none m at
  unmet_alike g (entry.Access a r ∷ es) none m at =
      elim (is_write a) as (λ w. ((w && overlaps (name_of a) n) || list_any (meets n) es) ≡ false → find name_cmp m g ≡ find name_cmp m (after_accesses (cond w (a ∷ writes_of es) (writes_of es)) g)) [
        | false ↦ λ e. unmet_alike g es e m at
        | true ↦ λ e.
            elim (overlaps (name_of a) n) as (λ o. overlaps (name_of a) n ≡ o → (o || list_any (meets n) es) ≡ false
            → find name_cmp m g ≡ find name_cmp m (after_accesses (writes_of es) (after_access a g))) [
              | true ↦ λ q t. absurd cc
              | false ↦ λ q t. at_each {P = λ k. find name_cmp k g ≡ find name_cmp k (after_access a g)} (λ k b below. sym (unmet k n b below a g q)) m at ∙ unmet_alike (after_access a g) es t m at
            ] refl e
      ] none
