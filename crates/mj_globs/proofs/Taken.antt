-- The names that a list of changes takes and doesn't give again are taken one by one.
use Rattle.std.proofs.Common.{◌≡◌, ℕ, Bool, true, false, cond, ◌||◌, ◌&&◌, List, [], ◌∷◌, ◌++◌, Option, Some, None, refl, sym, ap, ◌∙◌, ◌<◌, length, get_or}
use Rattle.std.specs.Prelude.{T, if◌then◌else◌}
use Rattle.std.specs.declared.cmp.Ordering.{Ordering}
use Rattle.std.specs.declared.cmp.Ordering.TheVariants.{Less, Equal, Greater}
use Rattle.std.specs.Ordering.{is_eq, eq_by_cmp}
use Rattle.std.specs.FinMap.{find, put, is_sorted}
use Rattle.std.specs.FinMap.Entries.{by_order, below_all, find-put, same_entries}
use Rattle.std.specs.List.{fold, list_any, cons_option}
use Rattle.std.specs.Option.{is_none, is_some, option_map}
use Rattle.std.proofs.lemmas.List.Folds.{list_any-append, list_any_at}
use Rattle.mj_subs.specs.Name.{Name, kinds_eq}
use Rattle.mj_subs.specs.Collation.{subscript_cmp, name_cmp}
use Rattle.mj_subs.specs.Laws.Total.{name_cmp_total}
use Rattle.mj_subs.specs.Laws.Ties.{name_cmp-IsAntisymmetric, bytes_eq-subscript_cmp}
use Rattle.mj_store.specs.Nodes.{after_front}
use Rattle.mj_store.specs.Questions.{Content, Subtree, value_at, same_word, rest_of, subtree_at}
use Rattle.mj_store.specs.Changes.{after_set, after_kill, after_put, followed_by}
use Rattle.std.specs.Str.{bytes_eq}
use Rattle.std.proofs.lemmas.Slice.Eq.{bytes_eq-Decides}
use Rattle.mj_tree.specs.Maps.{first_so, second_so, is_less}
use Rattle.mj_tree.specs.Undo.{restored}
use Rattle.mj_tree.proofs.Undo.{sorted_restored}
use Rattle.mj_globs.specs.declared.change.Change.{Change}
use Rattle.mj_globs.specs.declared.change.Change.TheVariants as change
use Rattle.mj_globs.specs.Changes.{after_changes, are_to}
use Rattle.mj_globs.specs.Parts.{all_given, all_taken, takes, is_rewritten, with_kill, all_kills, with_ungiven, with_below, with_all_below, without_each, are_of, taken_but_given}
use Rattle.mj_globs.specs.Stamps.{Stamps, KeepsStamps}
use Rattle.mj_globs.proofs.Parts.{rises_changes, rises_given, find_killed, find_changes, in_two}

-- ---- truth values

or_false : (a : Bool) → (a || false) ≡ a
or_false true = refl
or_false false = refl

and_true : (a : Bool) → (a && true) ≡ a
and_true true = refl
and_true false = refl

and_false : (a : Bool) → (a && false) ≡ false
and_false true = refl
and_false false = refl

twice : (a b c : Bool) → a ≡ b → (b || c) ≡ (a || (b || c))
twice true b c e = ap (λ x. x || c) (sym e)
twice false b c e = refl

swap : (a b c : Bool) → (a || (b || c)) ≡ (b || (a || c))
swap true true c = refl
swap true false c = refl
swap false b c = refl

move : (a b c : Bool) → ((a || b) || c) ≡ (b || (a || c))
move true true c = refl
move true false c = refl
move false b c = refl

absorb : (a s q : Bool) → ((a || q) || (s && q)) ≡ (a || q)
absorb true s q = refl
absorb false s true = refl
absorb false s false = and_false s

spread : (a r g s q : Bool) → ((a || ((r && s) && q)) || ((g && s) && q)) ≡ (a || (((r || g) && s) && q))
spread true r g s q = refl
spread false false g s q = refl
spread false true g false q = ap (λ b. b && q) (and_false g)
spread false true g true true = refl
spread false true g true false = and_false (g && true)

neither_first : (b c : Bool) → (b || c) ≡ false → b ≡ false
neither_first true c h = absurd cc
neither_first false c h = refl

neither_second : (b c : Bool) → (b || c) ≡ false → c ≡ false
neither_second true c h = absurd cc
neither_second false c h = h

-- ---- names below a name

taken_so : {A : Type 0} (b : Bool) (r : Option A) (a : A) → cond b r None ≡ Some a → (b ≡ true) × (r ≡ Some a)
taken_so true r a e = (refl, e)
taken_so false r a e = absurd cc

both_true : (a b : Bool) → (a && b) ≡ true → (a ≡ true) × (b ≡ true)
both_true true b e = (refl, e)
both_true false b e = absurd cc

kinds_same : (a b : Bool) → kinds_eq a b ≡ true → a ≡ b
kinds_same true true e = refl
kinds_same true false e = absurd cc
kinds_same false true e = absurd cc
kinds_same false false e = refl

front_split : (p q l : List (List ℕ)) → after_front subscript_cmp p q ≡ Some l → p ++ l ≡ q
front_split [] q l e = sym (cc)
front_split (s ∷ p) [] l e = absurd cc
front_split (s ∷ p) (t ∷ q) l e =
    let h = taken_so (eq_by_cmp subscript_cmp s t) (after_front subscript_cmp p q) l e in
    λ i. (bytes_eq-Decides s t).0 (bytes_eq-subscript_cmp s t ∙ h.0) i ∷ front_split p q l h.1 i

-- a name that stands below another is the other followed by what it has more
rest_split : (n x : Name) (l : List (List ℕ)) → rest_of n x ≡ Some l → followed_by n l ≡ x
rest_split n x l e =
    let h = taken_so (same_word n x) (after_front subscript_cmp n.subscripts x.subscripts) l e in
    let w = both_true (kinds_eq n.global x.global) (bytes_eq n.word x.word) h.0 in
    λ i. record { global = kinds_same n.global x.global w.0 i; word = (bytes_eq-Decides n.word x.word).0 w.1 i; subscripts = front_split n.subscripts x.subscripts l h.1 i }

-- ---- lists of names

any_added : (p : Name → Bool) (alone : Content) (ns : List Name) (n : Name) → list_any p (with_ungiven alone ns n) ≡ (list_any p ns || (p n && is_none (value_at alone n)))
any_added p alone ns n = by (is_none (value_at alone n)) where
  by : (b : Bool) → list_any p (if b then ns ++ n ∷ [] else ns) ≡ (list_any p ns || (p n && b))
  by true = list_any-append p ns (n ∷ []) ∙ ap (λ c. list_any p ns || c) (or_false (p n) ∙ sym (and_true (p n)))
  by false = sym (ap (λ c. list_any p ns || c) (and_false (p n)) ∙ or_false (list_any p ns))

any_put : (p : Name → Bool) (n : Name) (v : List ℕ) (es : Content) → list_any (λ e. p e.0) (put name_cmp n v es) ≡ (p n || list_any (λ e. p e.0) es)
any_put p n v [] = refl
any_put p n v (e ∷ es) = by (any_put p n v es) (name_cmp n e.0) refl where
  by : list_any (λ e. p e.0) (put name_cmp n v es) ≡ (p n || list_any (λ e. p e.0) es) → (r : Ordering) → name_cmp n e.0 ≡ r
      → list_any (λ e. p e.0) (by_order r ((n, v) ∷ e ∷ es) ((e.0, v) ∷ es) (e ∷ put name_cmp n v es)) ≡ (p n || (p e.0 || list_any (λ e. p e.0) es))
  by rest Less q = refl
  by rest Equal q = twice (p n) (p e.0) (list_any (λ e. p e.0) es) (ap p (name_cmp-IsAntisymmetric n e.0 q))
  by rest Greater q = ap (λ b. p e.0 || b) rest ∙ swap (p e.0) (p n) (list_any (λ e. p e.0) es)

rises_each : (c : Content) (ns : List Name) → T (is_sorted name_cmp c) → T (is_sorted name_cmp (without_each c ns))
rises_each c [] h = h
rises_each c (n ∷ ns) h = rises_each (restored name_cmp n None c) ns (sorted_restored name_cmp n None c h)

-- ---- one name

module _ (m : Name) where
  find_above : (es : Content) → T (below_all name_cmp m es) → find name_cmp m es ≡ None
  find_above [] h = refl
  find_above (e ∷ es) h = ap (λ r. cond (is_eq r) (Some e.1) (find name_cmp m es)) (is_less _ (first_so _ _ h)) ∙ find_above es (second_so _ _ h)

  abbrev is_in : List Name → Bool
  is_in ns = list_any (eq_by_cmp name_cmp m) ns

  abbrev is_below : Name → Bool
  is_below n = is_some (rest_of n m)

-- a name that is taken
taken_here : (m : Name) (e : Name × List ℕ) (es : Content) → T (below_all name_cmp e.0 es) → find name_cmp m es ≡ cond (eq_by_cmp name_cmp m e.0) None (find name_cmp m (e ∷ es))
taken_here m e es h = by (name_cmp m e.0) refl where
  by : (r : Ordering) → name_cmp m e.0 ≡ r → find name_cmp m es ≡ cond (is_eq r) None (cond (is_eq r) (Some e.1) (find name_cmp m es))
  by Less t = refl
  by Greater t = refl
  by Equal t = ap (λ (n : Name). find name_cmp n es) (name_cmp-IsAntisymmetric m e.0 t) ∙ find_above e.0 es h

tied_once : (m k x : Name) → is_eq (name_cmp k x) ≡ false → name_cmp m x ≡ Equal → eq_by_cmp name_cmp m k ≡ false
tied_once m k x q t = by (name_cmp m k) refl where
  by : (r : Ordering) → name_cmp m k ≡ r → is_eq r ≡ false
  by Less u = refl
  by Greater u = refl
  by Equal u = sym (ap is_eq t) ∙ ap (λ (n : Name). is_eq (name_cmp n x)) (name_cmp-IsAntisymmetric m k u) ∙ q

taken_behind : (m k : Name) (e : Name × List ℕ) (es fs : Content) → is_eq (name_cmp k e.0) ≡ false → find name_cmp m fs ≡ cond (eq_by_cmp name_cmp m k) None (find name_cmp m es)
    → find name_cmp m (e ∷ fs) ≡ cond (eq_by_cmp name_cmp m k) None (find name_cmp m (e ∷ es))
taken_behind m k e es fs q rest = by (name_cmp m e.0) refl where
  by : (r : Ordering) → name_cmp m e.0 ≡ r → cond (is_eq r) (Some e.1) (find name_cmp m fs) ≡ cond (eq_by_cmp name_cmp m k) None (cond (is_eq r) (Some e.1) (find name_cmp m es))
  by Less t = rest
  by Greater t = rest
  by Equal t = sym (ap (λ b. cond b None (Some e.1)) (tied_once m k e.0 q t))

no_text : {A : Type 0} (b : Bool) → None ≡ cond {A = Option A} b None None
no_text true = refl
no_text false = refl

find_restored : (m k : Name) (c : Content) → T (is_sorted name_cmp c) → find name_cmp m (restored name_cmp k None c) ≡ cond (eq_by_cmp name_cmp m k) None (find name_cmp m c)
find_restored m k [] h = no_text (eq_by_cmp name_cmp m k)
find_restored m k (e ∷ es) h = by (find_restored m k es (second_so _ _ h)) (name_cmp k e.0) refl where
  by : find name_cmp m (restored name_cmp k None es) ≡ cond (eq_by_cmp name_cmp m k) None (find name_cmp m es) → (r : Ordering) → name_cmp k e.0 ≡ r
      → find name_cmp m (cond (is_eq r) es (e ∷ restored name_cmp k None es)) ≡ cond (eq_by_cmp name_cmp m k) None (find name_cmp m (e ∷ es))
  by rest Less q = taken_behind m k e es (restored name_cmp k None es) (ap is_eq q) rest
  by rest Greater q = taken_behind m k e es (restored name_cmp k None es) (ap is_eq q) rest
  by rest Equal q =
      taken_here m e es (first_so _ _ h)
      ∙ ap (λ (n : Name). cond (eq_by_cmp name_cmp m n) None (find name_cmp m (e ∷ es))) (sym (name_cmp-IsAntisymmetric k e.0 q))

either_none : {A : Type 0} (a b : Bool) (t : Option A) → cond b None (cond a None t) ≡ cond (a || b) None t
either_none true true t = refl
either_none true false t = refl
either_none false b t = refl

find_each : (m : Name) (c : Content) (ns : List Name) → T (is_sorted name_cmp c) → find name_cmp m (without_each c ns) ≡ cond (is_in m ns) None (find name_cmp m c)
find_each m c [] h = refl
find_each m c (n ∷ ns) h =
    find_each m (restored name_cmp n None c) ns (sorted_restored name_cmp n None c h)
    ∙ ap (λ (t : Option (List ℕ)). cond (is_in m ns) None t) (find_restored m n c h)
    ∙ either_none (eq_by_cmp name_cmp m n) (is_in m ns) (find name_cmp m c)

-- ---- the names that are collected

-- a node that isn't below
passed : (m n : Name) (a q : Bool) (x : Name × List ℕ) (xs : Content) → rest_of n x.0 ≡ None
    → (a || ((is_below m n && is_some (find name_cmp m xs)) && q)) ≡ (a || ((is_below m n && is_some (find name_cmp m (x ∷ xs))) && q))
passed m n a q x xs e = by (name_cmp m x.0) refl where
  by : (r : Ordering) → name_cmp m x.0 ≡ r
      → (a || ((is_below m n && is_some (find name_cmp m xs)) && q)) ≡ (a || ((is_below m n && is_some (cond (is_eq r) (Some x.1) (find name_cmp m xs))) && q))
  by Less t = refl
  by Greater t = refl
  by Equal t =
      let apart : is_below m n ≡ false = ap (λ (k : Name). is_some (rest_of n k)) (name_cmp-IsAntisymmetric m x.0 t) ∙ ap is_some e in
      ap (λ b. a || ((b && is_some (find name_cmp m xs)) && q)) apart ∙ sym (ap (λ b. a || ((b && true) && q)) apart)

-- a node below
met : (m n : Name) (alone : Content) (a : Bool) (x : Name × List ℕ) (xs : Content) (l : List (List ℕ)) → rest_of n x.0 ≡ Some l
    → ((a || (eq_by_cmp name_cmp m x.0 && is_none (find name_cmp x.0 alone))) || ((is_below m n && is_some (find name_cmp m xs)) && is_none (find name_cmp m alone)))
    ≡ (a || ((is_below m n && is_some (find name_cmp m (x ∷ xs))) && is_none (find name_cmp m alone)))
met m n alone a x xs l e = by (name_cmp m x.0) refl where
  by : (r : Ordering) → name_cmp m x.0 ≡ r
      → ((a || (is_eq r && is_none (find name_cmp x.0 alone))) || ((is_below m n && is_some (find name_cmp m xs)) && is_none (find name_cmp m alone)))
      ≡ (a || ((is_below m n && is_some (cond (is_eq r) (Some x.1) (find name_cmp m xs))) && is_none (find name_cmp m alone)))
  by Less t = ap (λ b. b || ((is_below m n && is_some (find name_cmp m xs)) && is_none (find name_cmp m alone))) (or_false a)
  by Greater t = ap (λ b. b || ((is_below m n && is_some (find name_cmp m xs)) && is_none (find name_cmp m alone))) (or_false a)
  by Equal t =
      let below : is_below m n ≡ true = ap (λ (k : Name). is_some (rest_of n k)) (name_cmp-IsAntisymmetric m x.0 t) ∙ ap is_some e in
      let same : is_none (find name_cmp x.0 alone) ≡ is_none (find name_cmp m alone) = ap (λ (k : Name). is_none (find name_cmp k alone)) (sym (name_cmp-IsAntisymmetric m x.0 t)) in
      ap (λ b. (a || b) || ((is_below m n && is_some (find name_cmp m xs)) && is_none (find name_cmp m alone))) same
      ∙ ap (λ b. (a || is_none (find name_cmp m alone)) || ((b && is_some (find name_cmp m xs)) && is_none (find name_cmp m alone))) below
      ∙ absorb a (is_some (find name_cmp m xs)) (is_none (find name_cmp m alone))
      ∙ sym (ap (λ b. a || ((b && true) && is_none (find name_cmp m alone))) below)

added_below : (m : Name) (alone c : Content) (n : Name) (ns : List Name)
    → is_in m (with_below alone n ns (subtree_at c n)) ≡ (is_in m ns || ((is_below m n && is_some (find name_cmp m c)) && is_none (find name_cmp m alone)))
added_below m alone [] n ns = sym (ap (λ b. is_in m ns || (b && is_none (find name_cmp m alone))) (and_false (is_below m n)) ∙ or_false (is_in m ns))
added_below m alone (x ∷ xs) n ns = by (λ names. added_below m alone xs n names) (rest_of n x.0) refl where
  by : ((names : List Name) → is_in m (with_below alone n names (subtree_at xs n)) ≡ (is_in m names || ((is_below m n && is_some (find name_cmp m xs)) && is_none (find name_cmp m alone))))
      → (r : Option (List (List ℕ))) → rest_of n x.0 ≡ r → is_in m (with_below alone n ns (cons_option (option_map (λ l. (l, x.1)) r) (subtree_at xs n)))
      ≡ (is_in m ns || ((is_below m n && is_some (find name_cmp m (x ∷ xs))) && is_none (find name_cmp m alone)))
  by rest None e = rest ns ∙ passed m n (is_in m ns) (is_none (find name_cmp m alone)) x xs e
  by rest (Some l) e =
      rest (with_ungiven alone ns (followed_by n l))
      ∙ ap (λ b. b || ((is_below m n && is_some (find name_cmp m xs)) && is_none (find name_cmp m alone)))
      (any_added (eq_by_cmp name_cmp m) alone ns (followed_by n l)
      ∙ ap (λ (k : Name). is_in m ns || (eq_by_cmp name_cmp m k && is_none (find name_cmp k alone))) (rest_split n x.0 l e))
      ∙ met m n alone (is_in m ns) x xs l e

added_all : (m : Name) (alone c : Content) (ns : List Name) (ks : Content)
    → is_in m (with_all_below alone c ns ks) ≡ (is_in m ns || ((list_any (λ k. is_below m k.0) ks && is_some (find name_cmp m c)) && is_none (find name_cmp m alone)))
added_all m alone c ns [] = sym (or_false (is_in m ns))
added_all m alone c ns (k ∷ ks) =
    added_all m alone c (with_below alone k.0 ns (subtree_at c k.0)) ks
    ∙ ap (λ b. b || ((list_any (λ k. is_below m k.0) ks && is_some (find name_cmp m c)) && is_none (find name_cmp m alone))) (added_below m alone c k.0 ns)
    ∙ spread (is_in m ns) (is_below m k.0) (list_any (λ k. is_below m k.0) ks) (is_some (find name_cmp m c)) (is_none (find name_cmp m alone))

kills_take : (m : Name) (ks : Content) (xs : List Change) → list_any (λ k. is_below m k.0) (fold with_kill ks xs) ≡ (list_any (λ k. is_below m k.0) ks || list_any (takes m) xs)
kills_take m ks [] = sym (or_false _)
kills_take m ks (change.Set n v ∷ xs) = kills_take m ks xs
kills_take m ks (change.Put n more ∷ xs) = kills_take m ks xs
kills_take m ks (change.Kill n ∷ xs) =
    kills_take m (after_set ks n []) xs
    ∙ ap (λ b. b || list_any (takes m) xs) (any_put (is_below m) n [] ks)
    ∙ move (is_below m n) (list_any (λ k. is_below m k.0) ks) (list_any (takes m) xs)

-- ---- what is given where nothing was is given last

module _ (m : Name) where
  abbrev IsLast : Content → Content → Type 0
  IsLast f c = (v : List ℕ) → find name_cmp m f ≡ Some v → find name_cmp m c ≡ Some v

  last_set : (f c : Content) (n : Name) (w : List ℕ) → IsLast f c → IsLast (after_set f n w) (after_set c n w)
  last_set f c n w so v e = find-put name_cmp name_cmp_total m n w c ∙ by (eq_by_cmp name_cmp m n) (sym (find-put name_cmp name_cmp_total m n w f) ∙ e) where
    by : (b : Bool) → cond b (Some w) (find name_cmp m f) ≡ Some v → cond b (Some w) (find name_cmp m c) ≡ Some v
    by true h = h
    by false h = so v h

  last_put : (f c : Content) (n : Name) (more : Subtree) → IsLast f c → IsLast (after_put f n more) (after_put c n more)
  last_put f c n [] so = so
  last_put f c n (x ∷ more) so = last_put (after_set f (followed_by n x.0) x.1) (after_set c (followed_by n x.0) x.1) n more (last_set f c (followed_by n x.0) x.1 so)

  last_kill : (f c : Content) (n : Name) → IsLast f c → IsLast (after_kill f n) c
  last_kill f c n so v e = by (is_none (rest_of n m)) (sym (find_killed m f n) ∙ e) where
    by : (b : Bool) → cond b (find name_cmp m f) None ≡ Some v → find name_cmp m c ≡ Some v
    by true h = so v h
    by false h = absurd cc

  last_given : (f c : Content) (xs : List Change) → IsLast f c → IsLast (after_changes f xs) (all_given c xs)
  last_given f c [] so = so
  last_given f c (change.Set n v ∷ xs) so = last_given (after_set f n v) (after_set c n v) xs (last_set f c n v so)
  last_given f c (change.Kill n ∷ xs) so = last_given (after_kill f n) c xs (last_kill f c n so)
  last_given f c (change.Put n more ∷ xs) so = last_given (after_put f n more) (after_put c n more) xs (last_put f c n more so)

-- ---- all together

missing : (was : Option (List ℕ)) → cond (is_some was && true) None was ≡ None
missing None = refl
missing (Some w) = refl

chosen : (g : Bool) (was alone : Option (List ℕ)) → ((v : List ℕ) → alone ≡ Some v → was ≡ Some v) → cond ((g && is_some was) && is_none alone) None was ≡ cond g alone was
chosen false was alone so = refl
chosen true was None so = missing was
chosen true was (Some v) so = ap (λ b. cond b None was) (and_false (is_some was)) ∙ so v refl

in_names : (old : Content) (xs : List Change) (alone mid : Content) → T (is_sorted name_cmp old) → alone ≡ after_changes [] xs → mid ≡ all_given old xs
    → without_each mid (with_all_below alone mid [] (all_kills xs)) ≡ after_changes old xs
in_names old xs alone mid h by first =
    (λ i. without_each (first i) (with_all_below (by i) (first i) [] (all_kills xs)))
    ∙ same_entries name_cmp name_cmp_total name_cmp-IsAntisymmetric (without_each (all_given old xs) (with_all_below (after_changes [] xs) (all_given old xs) [] (all_kills xs))) (after_changes old xs)
    (rises_each (all_given old xs) (with_all_below (after_changes [] xs) (all_given old xs) [] (all_kills xs)) (rises_given old xs h)) (rises_changes old xs h) (λ m.
    find_each m (all_given old xs) (with_all_below (after_changes [] xs) (all_given old xs) [] (all_kills xs)) (rises_given old xs h)
    ∙ ap (λ b. cond b None (find name_cmp m (all_given old xs))) (added_all m (after_changes [] xs) (all_given old xs) [] (all_kills xs))
    ∙ ap (λ b. cond ((b && is_some (find name_cmp m (all_given old xs))) && is_none (find name_cmp m (after_changes [] xs))) None (find name_cmp m (all_given old xs))) (kills_take m [] xs)
    ∙ chosen (list_any (takes m) xs) (find name_cmp m (all_given old xs)) (find name_cmp m (after_changes [] xs)) (last_given m [] old xs (λ v e. absurd cc))
    ∙ sym (find_changes m old [] xs))

-- the texts first, and then the names that go
pub in_parts : (old : Content) (xs : List Change) (alone mid new : Content) → T (is_sorted name_cmp old) → alone ≡ after_changes [] xs → mid ≡ all_given old xs
    → new ≡ taken_but_given alone mid xs → new ≡ after_changes old xs
in_parts old xs alone mid new h is first last = by (list_any (is_rewritten alone) xs) refl last where
  by : (b : Bool) → list_any (is_rewritten alone) xs ≡ b → new ≡ (if b then without_each mid (with_all_below alone mid [] (all_kills xs)) else all_taken mid xs) → new ≡ after_changes old xs
  by true q e = e ∙ in_names old xs alone mid h is first
  by false q e = in_two old xs alone mid new h is (sym q) first e

-- names taken each alone, or with all below them
pub taken_named : (alone c new : Content) (xs : List Change) (ns : List Name) → true ≡ list_any (is_rewritten alone) xs → ns ≡ with_all_below alone c [] (all_kills xs) → new ≡ without_each c ns
    → new ≡ taken_but_given alone c xs
taken_named alone c new xs ns holds named is =
    is ∙ ap (without_each c) named ∙ ap (λ b. if b then without_each c (with_all_below alone c [] (all_kills xs)) else all_taken c xs) holds

pub taken_whole : (alone c new : Content) (xs : List Change) → false ≡ list_any (is_rewritten alone) xs → new ≡ all_taken c xs → new ≡ taken_but_given alone c xs
taken_whole alone c new xs none is = is ∙ ap (λ b. if b then without_each c (with_all_below alone c [] (all_kills xs)) else all_taken c xs) none

-- ---- the words of the names

words_below : (m : Name) (alone : Content) (n : Name) (ns : List Name) (nodes : Subtree) → same_word n m ≡ false → are_of ns m ≡ false → are_of (with_below alone n ns nodes) m ≡ false
words_below m alone n ns [] apart none = none
words_below m alone n ns (e ∷ es) apart none =
    words_below m alone n (with_ungiven alone ns (followed_by n e.0)) es apart
    (any_added (λ k. same_word k m) alone ns (followed_by n e.0) ∙ (λ i. none i || (apart i && is_none (value_at alone (followed_by n e.0)))))

words_all : (m : Name) (alone c : Content) (ns : List Name) (ks : Content) → list_any (λ k. same_word k.0 m) ks ≡ false → are_of ns m ≡ false → are_of (with_all_below alone c ns ks) m ≡ false
words_all m alone c ns [] apart none = none
words_all m alone c ns (k ∷ ks) apart none =
    words_all m alone c (with_below alone k.0 ns (subtree_at c k.0)) ks (neither_second (same_word k.0 m) (list_any (λ k. same_word k.0 m) ks) apart)
    (words_below m alone k.0 ns (subtree_at c k.0) (neither_first (same_word k.0 m) (list_any (λ k. same_word k.0 m) ks) apart) none)

words_kills : (m : Name) (ks : Content) (xs : List Change) → are_to xs m ≡ false → list_any (λ k. same_word k.0 m) ks ≡ false → list_any (λ k. same_word k.0 m) (fold with_kill ks xs) ≡ false
words_kills m ks [] apart none = none
words_kills m ks (change.Set n v ∷ xs) apart none = words_kills m ks xs (neither_second (same_word n m) (are_to xs m) apart) none
words_kills m ks (change.Put n more ∷ xs) apart none = words_kills m ks xs (neither_second (same_word n m) (are_to xs m) apart) none
words_kills m ks (change.Kill n ∷ xs) apart none =
    words_kills m (after_set ks n []) xs (neither_second (same_word n m) (are_to xs m) apart)
    (any_put (λ k. same_word k m) n [] ks ∙ (λ i. neither_first (same_word n m) (are_to xs m) apart i || none i))

-- a word that no change is to is none of a name that is taken
words_apart : (m : Name) (alone c : Content) (xs : List Change) → are_to xs m ≡ false → are_of (with_all_below alone c [] (all_kills xs)) m ≡ false
words_apart m alone c xs apart = words_all m alone c [] (all_kills xs) (words_kills m [] xs apart refl) refl

pub keeps_words : (alone c : Content) (xs : List Change) (ns : List Name) (a b : Stamps) → ns ≡ with_all_below alone c [] (all_kills xs) → KeepsStamps (are_of ns) a b → KeepsStamps (are_to xs) a b
keeps_words alone c xs ns a b is keeps n e = keeps n (ap (λ (ms : List Name). are_of ms n) is ∙ words_apart n alone c xs e)

pub keeps_name : (ns : List Name) (i : ℕ) (n : Name) (a b c : Stamps) → i < length ns → n ≡ get_or ns i n → KeepsStamps (are_of ns) a b → KeepsStamps (same_word n) b c → KeepsStamps (are_of ns) a c
keeps_name ns i n a b c there is so step m e = step m (by (same_word n m) refl) ∙ so m e where
  by : (t : Bool) → same_word n m ≡ t → t ≡ false
  by true q = sym (list_any_at (λ k. same_word k m) ns i n there (ap (λ (k : Name). same_word k m) (sym is) ∙ q)) ∙ e
  by false q = refl
