-- The own writes, as they lie over the globals, give what is seen.
use Rattle.std.proofs.Common.{◌≡◌, ℕ, zero, suc, ◌+◌, ◌-◌, ◌≤◌, Bool, true, false, cond, nat_eq, not, ◌&&◌, ◌||◌, List, [], ◌∷◌, ◌++◌, length, take, drop, Option, Some, None, ◌⊎◌, inl, inr, refl, sym, ap, ◌∙◌, subst, arith, length-append}
use Rattle.std.specs.declared.cmp.Ordering.TheVariants.{Less, Equal, Greater}
use Rattle.std.specs.Ordering.{is_eq, eq_by_cmp}
use Rattle.std.specs.Cmp.{tied_itself}
use Rattle.std.specs.FinMap.{find}
use Rattle.std.specs.FinMap.Entries.{find-put, find-where_key}
use Rattle.std.specs.List.{list_any, cons_option}
use Rattle.std.specs.Option.{is_none, is_some, option_or, option_map}
use Rattle.std.proofs.lemmas.Bool.{eqb-true}
use Rattle.std.proofs.lemmas.List.{take-append-drop, take-append-le}
use Rattle.std.proofs.Math.Seq.{take-append-add, take-append_seam}
use Rattle.mj_subs.specs.Name.{Name}
use Rattle.mj_subs.specs.Collation.{name_cmp}
use Rattle.mj_subs.specs.Laws.Total.{name_cmp_total}
use Rattle.mj_subs.specs.Laws.Ties.{name_cmp-IsAntisymmetric}
use Rattle.mj_store.specs.Nodes.{is_empty, data_of}
use Rattle.mj_store.specs.Questions.{Content, Subtree, with_subscripts, rest_of, value_at, data_at, subtree_at}
use Rattle.mj_store.specs.Changes.{after_set, after_kill, after_put, followed_by, is_too_deep}
use Rattle.mj_store.specs.Runs.{after_access}
use Rattle.mj_store.specs.declared.access.Access.{Access}
use Rattle.mj_store.specs.declared.access.Access.TheVariants as access
use Rattle.mj_txlog.specs.declared.entry.Entry.{Entry}
use Rattle.mj_txlog.specs.declared.entry.Entry.TheVariants as entry
use Rattle.mj_txlog.specs.Accesses.{Accesses, seen}
use Rattle.mj_txlog.specs.Sight.{AreAlike}
use Rattle.mj_txlog.specs.Laid.{Laid, went_before, went, laid_after, laid_more, text_over, IsLaid, is_clear, data_either}
use Rattle.mj_txlog.proofs.Fronts.{rest_split, rest_itself, rest_followed}
use Rattle.mj_txlog.proofs.Alike.{seen_more}

-- ---- which names went

-- one of the fronts of n, with fewer subscripts than that, is m
abbrev hits : Name → Name → ℕ → Bool
hits m n zero = false
hits m n (suc k) = hits m n k || eq_by_cmp name_cmp (with_subscripts n (take k n.subscripts)) m

or_swap : (h w b s : Bool) → ((h || w) || (b || s)) ≡ ((h || b) || (w || s))
or_swap true w b s = refl
or_swap false true true s = refl
or_swap false true false s = refl
or_swap false false b s = refl

or_true : (b : Bool) → (b || true) ≡ true
or_true true = refl
or_true false = refl

pub some_either : (b : Bool) (v : List ℕ) (t : Option (List ℕ)) → is_some (cond b (Some v) t) ≡ (b || is_some t)
some_either true v t = refl
some_either false v t = refl

set_went : (gone : Content) (m n : Name) (k : ℕ) → went_before (after_set gone m []) n k ≡ (hits m n k || went_before gone n k)
set_went gone m n zero = refl
set_went gone m n (suc k) =
    let x = with_subscripts n (take k n.subscripts) in
    (λ i. set_went gone m n k i || is_some (find-put name_cmp name_cmp_total x m [] gone i))
    ∙ ap (λ b. (hits m n k || went_before gone n k) || b) (some_either (eq_by_cmp name_cmp x m) [] (find name_cmp x gone))
    ∙ or_swap (hits m n k) (went_before gone n k) (eq_by_cmp name_cmp x m) (is_some (find name_cmp x gone))

second_false : (a b : Bool) → (a || b) ≡ false → b ≡ false
second_false true b e = absurd cc
second_false false b e = e

-- what didn't go once one name more went, didn't before
pub went_less : (gone : Content) (m n : Name) → went (after_set gone m []) n ≡ false → went gone n ≡ false
went_less gone m n h = second_false (hits m n (suc (length n.subscripts))) (went gone n) (sym (set_went gone m n (suc (length n.subscripts))) ∙ h)

pub none_went : (n : Name) (k : ℕ) → went_before [] n k ≡ false
none_went n zero = refl
none_went n (suc k) = ap (λ b. b || false) (none_went n k)

-- a hit stays one
hit_more : (m n : Name) (k d : ℕ) → hits m n k ≡ true → hits m n (d + k) ≡ true
hit_more m n k zero h = subst (λ (j : ℕ). hits m n j ≡ true) {x = k} {y = 0 + k} (omega arith) h
hit_more m n k (suc d) h =
    subst (λ (j : ℕ). hits m n j ≡ true) {x = suc (d + k)} {y = suc d + k} (omega arith)
    (ap (λ b. b || eq_by_cmp name_cmp (with_subscripts n (take (d + k) n.subscripts)) m) (hit_more m n k d h))

hit_above : (m : Name) (l : List (List ℕ)) → hits m (followed_by m l) (suc (length (followed_by m l).subscripts)) ≡ true
hit_above m l =
    let here : hits m (followed_by m l) (suc (length m.subscripts)) ≡ true =
    ap (λ (p : List (List ℕ)). hits m (followed_by m l) (length m.subscripts) || eq_by_cmp name_cmp (with_subscripts m p) m) (take-append_seam m.subscripts l)
    ∙ ap (λ b. hits m (followed_by m l) (length m.subscripts) || is_eq b) (tied_itself name_cmp_total m)
    ∙ or_true (hits m (followed_by m l) (length m.subscripts))
    in
    subst (λ (j : ℕ). hits m (followed_by m l) j ≡ true) {x = length l + suc (length m.subscripts)} {y = suc (length (m.subscripts ++ l))} (omega (arith, length-append m.subscripts l))
    (hit_more m (followed_by m l) (suc (length m.subscripts)) (length l) here)

front_above : (n : Name) (k : ℕ) → rest_of (with_subscripts n (take k n.subscripts)) n ≡ Some (drop k n.subscripts)
front_above n k =
    let f = with_subscripts n (take k n.subscripts) in
    ap (λ (p : List (List ℕ)). rest_of f (with_subscripts n p)) (sym (take-append-drop k n.subscripts)) ∙ rest_followed f (drop k n.subscripts)

no_hit : (m n : Name) → rest_of m n ≡ None → (k : ℕ) → hits m n k ≡ false
no_hit m n none zero = refl
no_hit m n none (suc k) =
    let f = with_subscripts n (take k n.subscripts) in
    (λ i. no_hit m n none k i || eq_by_cmp name_cmp f m)
    ∙ elim (name_cmp f m) as (λ r. name_cmp f m ≡ r → is_eq r ≡ false) [
      | Equal ↦ λ q. let there : rest_of m n ≡ Some (drop k n.subscripts) = ap (λ (x : Name). rest_of x n) (sym (name_cmp-IsAntisymmetric f m q)) ∙ front_above n k in absurd (cc)
      | Less ↦ λ q. refl
      | Greater ↦ λ q. refl
    ] refl

hits_all : (m n : Name) → hits m n (suc (length n.subscripts)) ≡ is_some (rest_of m n)
hits_all m n =
    elim (rest_of m n) as (λ r. rest_of m n ≡ r → hits m n (suc (length n.subscripts)) ≡ is_some r) [
      | None ↦ λ e. no_hit m n e (suc (length n.subscripts))
      | Some l ↦ λ e. subst (λ (x : Name). hits m x (suc (length x.subscripts)) ≡ true) (rest_split m n l e) (hit_above m l)
    ] refl

-- ---- one access more

module _ (m : Name) where
  pub find_set : (c : Content) (n : Name) (v : List ℕ) → find name_cmp m (after_set c n v) ≡ cond (eq_by_cmp name_cmp m n) (Some v) (find name_cmp m c)
  find_set c n v = find-put name_cmp name_cmp_total m n v c

  pub find_killed : (c : Content) (n : Name) → find name_cmp m (after_kill c n) ≡ cond (is_none (rest_of n m)) (find name_cmp m c) None
  find_killed c n = find-where_key name_cmp (λ k. is_none (rest_of n k)) m (λ x e. ap (λ k. is_none (rest_of n k)) (sym (name_cmp-IsAntisymmetric m x e))) c

  set_laid : (c over : Content) (n : Name) (v : List ℕ) (t : Option (List ℕ)) → find name_cmp m c ≡ option_or (find name_cmp m over) t
      → find name_cmp m (after_set c n v) ≡ option_or (find name_cmp m (after_set over n v)) t
  set_laid c over n v t h =
      find_set c n v
      ∙ elim (eq_by_cmp name_cmp m n) as (λ b. cond b (Some v) (find name_cmp m c) ≡ option_or (cond b (Some v) (find name_cmp m over)) t) [ true ↦ refl | false ↦ h ]
      ∙ ap (λ (o : Option (List ℕ)). option_or o t) (sym (find_set over n v))

  put_laid : (c over : Content) (n : Name) (nodes : Subtree) (t : Option (List ℕ)) → find name_cmp m c ≡ option_or (find name_cmp m over) t
      → find name_cmp m (after_put c n nodes) ≡ option_or (find name_cmp m (after_put over n nodes)) t
  put_laid c over n [] t h = h
  put_laid c over n (x ∷ nodes) t h = put_laid (after_set c (followed_by n x.0) x.1) (after_set over (followed_by n x.0) x.1) n nodes t (set_laid c over (followed_by n x.0) x.1 t h)

  kill_laid : (c : Content) (o : Laid) (n : Name) (t : Option (List ℕ)) → find name_cmp m c ≡ text_over o m t → find name_cmp m (after_kill c n) ≡ text_over (laid_after (access.Kill n) o) m t
  kill_laid c o n t h =
      find_killed c n
      ∙ elim (rest_of n m) as (λ r. cond (is_none r) (find name_cmp m c) None ≡ option_or (cond (is_none r) (find name_cmp m o.over) None) (cond (is_some r || went o.gone m) None t)) [
        | None ↦ h
        | Some l ↦ refl
      ]
      ∙ (λ i. option_or (sym (find_killed o.over n) i) (cond (sym (set_went o.gone n m (suc (length m.subscripts)) ∙ ap (λ b. b || went o.gone m) (hits_all n m)) i) None t))

  access_laid : (a : Access) (c : Content) (o : Laid) (t : Option (List ℕ)) → find name_cmp m c ≡ text_over o m t → find name_cmp m (after_access a c) ≡ text_over (laid_after a o) m t
  access_laid (access.Value n) c o t h = h
  access_laid (access.Data n) c o t h = h
  access_laid (access.Order n way) c o t h = h
  access_laid (access.Query n) c o t h = h
  access_laid (access.Subtree n) c o t h = h
  access_laid (access.Set n v) c o t h = set_laid c o.over n v (cond (went o.gone m) None t) h
  access_laid (access.Kill n) c o t h = kill_laid c o n t h
  access_laid (access.Put n nodes) c o t h =
      elim (is_too_deep n nodes) as (λ b. find name_cmp m (cond b c (after_put c n nodes)) ≡ option_or (find name_cmp m (cond b o.over (after_put o.over n nodes))) (cond (went o.gone m) None t)) [
        | true ↦ h
        | false ↦ put_laid c o.over n nodes (cond (went o.gone m) None t) h
      ]

entry_seen : (a : Access) (c : Content) (r : _) → seen c (entry.Access a r ∷ []) ≡ after_access a c
entry_seen (access.Value n) c r = refl
entry_seen (access.Data n) c r = refl
entry_seen (access.Order n way) c r = refl
entry_seen (access.Query n) c r = refl
entry_seen (access.Subtree n) c r = refl
entry_seen (access.Set n v) c r = refl
entry_seen (access.Kill n) c r = refl
entry_seen (access.Put n nodes) c r = refl

-- no accesses, and nothing that lies over the globals
pub none_laid : IsLaid (record { over = []; gone = [] }) []
none_laid n globals = ap (λ b. cond b None (value_at globals n)) (sym (none_went n (suc (length n.subscripts))))

pub more_laid : (o : Laid) (es : Accesses) (e : Entry) → IsLaid o es → IsLaid (laid_more o e) (es ++ e ∷ [])
more_laid o es (entry.Unlock u) h n globals = ap (find name_cmp n) (seen_more globals es (entry.Unlock u)) ∙ h n globals
more_laid o es (entry.Access a r) h n globals =
    ap (find name_cmp n) (seen_more globals es (entry.Access a r) ∙ entry_seen a (seen globals es) r) ∙ access_laid n a (seen globals es) o (value_at globals n) (h n globals)

-- ---- below a name

none_there : (nodes : Subtree) → data_of nodes ≡ 0 → nodes ≡ []
none_there [] e = refl
none_there (([], v) ∷ es) e = absurd (omega (arith, e))
none_there ((s ∷ p, v) ∷ es) e = absurd (omega (arith, e))

module _ (m : Name) where
  no_text : (c : Content) (n : Name) → subtree_at c n ≡ [] → is_some (rest_of n m) ≡ true → find name_cmp m c ≡ None
  no_text [] n e h = refl
  no_text (x ∷ xs) n e h =
      elim (rest_of n x.0) as (λ r. rest_of n x.0 ≡ r → cons_option (option_map (λ l. (l, x.1)) r) (subtree_at xs n) ≡ [] → cond (eq_by_cmp name_cmp m x.0) (Some x.1) (find name_cmp m xs) ≡ None) [
        | Some l ↦ λ q l. absurd cc
        | None ↦ λ q rest.
            elim (name_cmp m x.0) as (λ r. name_cmp m x.0 ≡ r → cond (is_eq r) (Some x.1) (find name_cmp m xs) ≡ None) [
              | Equal ↦ λ t. let none : is_some (rest_of n m) ≡ false = ap (λ k. is_some (rest_of n k)) (name_cmp-IsAntisymmetric m x.0 t) ∙ ap is_some q in absurd cc
              | _ ↦ λ t. no_text xs n rest h
            ] refl
      ] refl e

-- where nothing stands at a name or below it, no name there has a text
absent : (c : Content) (n m : Name) → data_at c n ≡ 0 → is_some (rest_of n m) ≡ true → value_at c m ≡ None
absent c n m e h = no_text m c n (none_there (subtree_at c n) e) h

-- the fronts of a name are those of one below it, as far as they go
same_went : (gone : Content) (n : Name) (b : List (List ℕ)) (k : ℕ) → k ≤ suc (length n.subscripts) → went_before gone (followed_by n b) k ≡ went_before gone n k
same_went gone n b zero h = refl
same_went gone n b (suc k) h =
    λ i. same_went gone n b k (omega (arith, h)) i || is_some (value_at gone (with_subscripts n (take-append-le k n.subscripts b (omega (arith, h)) i)))

went_more : (gone : Content) (n : Name) (k d : ℕ) → went_before gone n k ≡ true → went_before gone n (d + k) ≡ true
went_more gone n k zero h = subst (λ (j : ℕ). went_before gone n j ≡ true) {x = k} {y = 0 + k} (omega arith) h
went_more gone n k (suc d) h =
    subst (λ (j : ℕ). went_before gone n j ≡ true) {x = suc (d + k)} {y = suc d + k} (omega arith)
    (ap (λ b. b || is_some (value_at gone (with_subscripts n (take (d + k) n.subscripts)))) (went_more gone n k d h))

-- a front that went
pub went_front : (gone : Content) (n : Name) (k : ℕ) → k ≤ length n.subscripts → is_some (value_at gone (with_subscripts n (take k n.subscripts))) ≡ true → went gone n ≡ true
went_front gone n k h there =
    subst (λ (j : ℕ). went_before gone n j ≡ true) {x = length n.subscripts - k + suc k} {y = suc (length n.subscripts)} (omega (arith, h))
    (went_more gone n (suc k) (length n.subscripts - k) (ap (λ b. went_before gone n k || b) there ∙ or_true (went_before gone n k)))

pub front_not : (gone : Content) (n : Name) (k : ℕ) → went_before gone n k ≡ false → is_some (value_at gone (with_subscripts n (take k n.subscripts))) ≡ false → went_before gone n (k + 1) ≡ false
front_not gone n k h none =
    subst (λ (j : ℕ). went_before gone n j ≡ false) {x = suc k} {y = k + 1} (omega arith) (λ i. h i || none i)

-- what is below a name that went, went
pub went_below : (gone : Content) (n : Name) (b : List (List ℕ)) → went gone n ≡ true → went gone (followed_by n b) ≡ true
went_below gone n b h =
    subst (λ (j : ℕ). went_before gone (followed_by n b) j ≡ true) {x = length b + suc (length n.subscripts)} {y = suc (length (n.subscripts ++ b))} (omega (arith, length-append n.subscripts b))
    (went_more gone (followed_by n b) (suc (length n.subscripts)) (length b) (same_went gone n b (suc (length n.subscripts)) (omega arith) ∙ h))

-- and where neither a name nor one above or below it went, none below it did
clear_more : (gone : Content) (n : Name) (b : List (List ℕ)) → went gone n ≡ false → data_at gone n ≡ 0 → (d : ℕ) → went_before gone (followed_by n b) (d + suc (length n.subscripts)) ≡ false
clear_more gone n b h e zero =
    subst (λ (j : ℕ). went_before gone (followed_by n b) j ≡ false) {x = suc (length n.subscripts)} {y = 0 + suc (length n.subscripts)} (omega arith)
    (same_went gone n b (suc (length n.subscripts)) (omega arith) ∙ h)
clear_more gone n b h e (suc d) =
    let k = d + suc (length n.subscripts) in
    let at : length n.subscripts + suc d ≡ k = omega arith in
    let below : take k (n.subscripts ++ b) ≡ n.subscripts ++ take (suc d) b = ap (λ (j : ℕ). take j (n.subscripts ++ b)) (sym at) ∙ take-append-add n.subscripts b (suc d) in
    let none : value_at gone (with_subscripts n (take k (n.subscripts ++ b))) ≡ None =
    absent gone n (with_subscripts n (take k (n.subscripts ++ b))) e (ap (λ (p : List (List ℕ)). is_some (rest_of n (with_subscripts n p))) below ∙ ap is_some (rest_followed n (take (suc d) b)))
    in
    subst (λ (j : ℕ). went_before gone (followed_by n b) j ≡ false) {x = suc k} {y = suc d + suc (length n.subscripts)} (omega arith)
    (λ i. clear_more gone n b h e d i || is_some (none i))

pub clear_below : (gone : Content) (n : Name) (b : List (List ℕ)) → went gone n ≡ false → data_at gone n ≡ 0 → went gone (followed_by n b) ≡ false
clear_below gone n b h e =
    subst (λ (j : ℕ). went_before gone (followed_by n b) j ≡ false) {x = length b + suc (length n.subscripts)} {y = suc (length (n.subscripts ++ b))} (omega (arith, length-append n.subscripts b))
    (clear_more gone n b h e (length b))

clear_parts : (a b : ℕ) → (nat_eq a 0 && nat_eq b 0) ≡ true → (a ≡ 0) × (b ≡ 0)
clear_parts a b h = elim (nat_eq a 0) as (λ x. nat_eq a 0 ≡ x → (x && nat_eq b 0) ≡ true → (a ≡ 0) × (b ≡ 0)) [ true ↦ λ e f. (eqb-true a 0 e, eqb-true b 0 f) | false ↦ λ e f. absurd cc ] refl h

or_none : (t : Option (List ℕ)) → option_or t None ≡ t
or_none None = refl
or_none (Some v) = refl

module _ (o : Laid) (es : Accesses) (n : Name) (laid : IsLaid o es) where
  at_each : (P : Name → Type 0) → ((b : List (List ℕ)) → P (followed_by n b)) → (m : Name) → is_some (rest_of n m) ≡ true → P m
  at_each P f m h = elim (rest_of n m) as (λ r. rest_of n m ≡ r → is_some r ≡ true → P m) [ None ↦ λ e s. absurd cc | Some b ↦ λ e s. subst P (rest_split n m b e) (f b) ] refl h

  -- below a name that went, the own texts are what is seen
  pub went_alike : (globals : Content) → went o.gone n ≡ true → AreAlike n o.over (seen globals es)
  went_alike globals h = at_each (λ m. find name_cmp m o.over ≡ find name_cmp m (seen globals es)) (λ b.
      let m = followed_by n b in
      sym (laid m globals ∙ ap (λ w. option_or (value_at o.over m) (cond w None (value_at globals m))) (went_below o.gone n b h) ∙ or_none (value_at o.over m)))

  -- where no own write is to a name, or to one above or below it, the globals are
  pub clear_alike : (globals : Content) → went o.gone n ≡ false → is_clear o n ≡ true → AreAlike n globals (seen globals es)
  clear_alike globals h clear = let z = clear_parts (data_at o.over n) (data_at o.gone n) clear in at_each (λ m. find name_cmp m globals ≡ find name_cmp m (seen globals es)) (λ b.
      let m = followed_by n b in
      sym (laid m globals ∙ (λ i. option_or (absent o.over n m z.0 (ap is_some (rest_followed n b)) i) (cond (clear_below o.gone n b h z.1 i) None (value_at globals m)))))

-- ---- $DATA of what is seen

abbrev data_by : Bool → Bool → ℕ
data_by here below = cond here 1 0 + cond below 10 0

either_by : (h b k d : Bool) → data_either (data_by h b) (data_by k d) ≡ data_by (h || k) (b || d)
either_by true true true true = refl
either_by true true true false = refl
either_by true true false true = refl
either_by true true false false = refl
either_by true false true true = refl
either_by true false true false = refl
either_by true false false true = refl
either_by true false false false = refl
either_by false true true true = refl
either_by false true true false = refl
either_by false true false true = refl
either_by false true false false = refl
either_by false false true true = refl
either_by false false true false = refl
either_by false false false true = refl
either_by false false false false = refl

some_or : (x y : Option (List ℕ)) → is_some (option_or x y) ≡ (is_some x || is_some y)
some_or None y = refl
some_or (Some v) y = refl

nil_after : (p : List (List ℕ)) → p ++ [] ≡ p
nil_after [] = refl
nil_after (s ∷ p) = ap (λ (q : List (List ℕ)). s ∷ q) (nil_after p)

abbrev pub here_in : Subtree → Bool
here_in nodes = list_any (λ e. is_empty e.0) nodes

abbrev pub below_in : Subtree → Bool
below_in nodes = list_any (λ e. not (is_empty e.0)) nodes

-- the nodes at and below a name, where the first of the content is this far below it
abbrev nodes_with : Option (List (List ℕ)) → List ℕ → Subtree → Subtree
nodes_with r v nodes = cons_option (option_map (λ l. (l, v)) r) nodes

pub found_here : (n : Name) (c : Content) → here_in (subtree_at c n) ≡ is_some (find name_cmp n c)
found_here n [] = refl
found_here n (x ∷ c) = by (rest_of n x.0) refl (found_here n c)
  where
    apart : (r : Option (List (List ℕ))) → rest_of n x.0 ≡ r → (r ≡ Some [] → ⊥) → is_eq (name_cmp n x.0) ≡ false
    apart r e other =
        elim (name_cmp n x.0) as (λ t. name_cmp n x.0 ≡ t → is_eq t ≡ false) [
          | Equal ↦ λ q. absurd (other (sym e ∙ ap (rest_of n) (sym (name_cmp-IsAntisymmetric n x.0 q)) ∙ rest_itself n))
          | Less ↦ λ q. refl
          | Greater ↦ λ q. refl
        ] refl

    by : (r : Option (List (List ℕ))) → rest_of n x.0 ≡ r → here_in (subtree_at c n) ≡ is_some (find name_cmp n c)
        → here_in (nodes_with r x.1 (subtree_at c n)) ≡ is_some (cond (eq_by_cmp name_cmp n x.0) (Some x.1) (find name_cmp n c))
    by None e rest = rest ∙ sym (ap (λ b. is_some (cond b (Some x.1) (find name_cmp n c))) (apart None e (λ f. absurd cc)))
    by (Some []) e rest =
        let same : n ≡ x.0 = ap (with_subscripts n) (sym (nil_after n.subscripts)) ∙ rest_split n x.0 [] e in
        sym (ap (λ (k : Name). is_some (cond (eq_by_cmp name_cmp n k) (Some x.1) (find name_cmp n c))) (sym same)
        ∙ ap (λ r. is_some (cond (is_eq r) (Some x.1) (find name_cmp n c))) (tied_itself name_cmp_total n))
    by (Some (s ∷ l)) e rest = rest ∙ sym (ap (λ b. is_some (cond b (Some x.1) (find name_cmp n c))) (apart (Some (s ∷ l)) e (λ f. absurd cc)))

-- a text below the name is one of its nodes
below_from : (n : Name) (s : List ℕ) (b : List (List ℕ)) (c : Content) → is_some (find name_cmp (followed_by n (s ∷ b)) c) ≡ true → below_in (subtree_at c n) ≡ true
below_from n s b [] h = absurd cc
below_from n s b (x ∷ c) h =
    let m = followed_by n (s ∷ b) in
    elim (name_cmp m x.0) as (λ t. name_cmp m x.0 ≡ t → is_some (cond (is_eq t) (Some x.1) (find name_cmp m c)) ≡ true → below_in (nodes_with (rest_of n x.0) x.1 (subtree_at c n)) ≡ true) [
      | Equal ↦ λ q f. ap (λ r. below_in (nodes_with r x.1 (subtree_at c n))) (ap (rest_of n) (sym (name_cmp-IsAntisymmetric m x.0 q)) ∙ rest_followed n (s ∷ b))
      | Less ↦ λ q f. below_more n (rest_of n x.0) x.1 c (below_from n s b c f)
      | Greater ↦ λ q f. below_more n (rest_of n x.0) x.1 c (below_from n s b c f)
    ] refl h
  where
    below_more : (n : Name) (r : Option (List (List ℕ))) (v : List ℕ) (c : Content) → below_in (subtree_at c n) ≡ true → below_in (nodes_with r v (subtree_at c n)) ≡ true
    below_more n None v c f = f
    below_more n (Some l) v c f = ap (λ b. not (is_empty l) || b) f ∙ or_true (not (is_empty l))

-- and each of its nodes below it is such a text
pub record IsBelow (n : Name) (c : Content) : Type 0 where
  pub s : List ℕ
  pub b : List (List ℕ)
  pub there : is_some (find name_cmp (followed_by n (s ∷ b)) c) ≡ true

below_to : (n : Name) (c : Content) → below_in (subtree_at c n) ≡ true → IsBelow n c
below_to n [] h = absurd cc
below_to n (x ∷ c) h = by (rest_of n x.0) refl (below_to n c) h
  where
    later : IsBelow n c → IsBelow n (x ∷ c)
    later f =
        let m = followed_by n (f.s ∷ f.b) in
        record { s = f.s; b = f.b; there = some_either (eq_by_cmp name_cmp m x.0) x.1 (find name_cmp m c) ∙ ap (λ t. eq_by_cmp name_cmp m x.0 || t) f.there ∙ or_true (eq_by_cmp name_cmp m x.0) }

    by : (r : Option (List (List ℕ))) → rest_of n x.0 ≡ r → (below_in (subtree_at c n) ≡ true → IsBelow n c) → below_in (nodes_with r x.1 (subtree_at c n)) ≡ true → IsBelow n (x ∷ c)
    by None e rest f = later (rest f)
    by (Some []) e rest f = later (rest f)
    by (Some (s ∷ l)) e rest f =
        let m = followed_by n (s ∷ l) in
        record {
          s = s;
          b = l;
          there =
              ap (λ (k : Name). is_some (cond (eq_by_cmp name_cmp m k) (Some x.1) (find name_cmp m c))) (sym (rest_split n x.0 (s ∷ l) e))
              ∙ ap (λ r. is_some (cond (is_eq r) (Some x.1) (find name_cmp m c))) (tied_itself name_cmp_total m);
        }

pub none_gone : (d : ℕ) → not (nat_eq d 0) ≡ false → d ≡ 0
none_gone d h = elim (nat_eq d 0) as (λ b. nat_eq d 0 ≡ b → not b ≡ false → d ≡ 0) [ true ↦ λ e f. eqb-true d 0 e | false ↦ λ e f. absurd cc ] refl h

either_true : (a b : Bool) → (a || b) ≡ true → (a ≡ true) ⊎ (b ≡ true)
either_true true b e = inl refl
either_true false b e = inr e

module _ (o : Laid) (es : Accesses) (n : Name) (laid : IsLaid o es) (globals : Content) (stays : went o.gone n ≡ false) (none : data_at o.gone n ≡ 0) where
  -- a text at the name or below it is one of either
  either_text : (m : Name) → went o.gone m ≡ false → is_some (find name_cmp m (seen globals es)) ≡ (is_some (find name_cmp m o.over) || is_some (find name_cmp m globals))
  either_text m w = ap is_some (laid m globals ∙ ap (λ b. option_or (find name_cmp m o.over) (cond b None (find name_cmp m globals))) w) ∙ some_or (find name_cmp m o.over) (find name_cmp m globals)

  either_below : (b c : Bool) → below_in (subtree_at o.over n) ≡ b → below_in (subtree_at globals n) ≡ c → below_in (subtree_at (seen globals es) n) ≡ (b || c)
  either_below true c e f =
      let i = below_to n o.over e in
      let m = followed_by n (i.s ∷ i.b) in
      below_from n i.s i.b (seen globals es) (either_text m (clear_below o.gone n (i.s ∷ i.b) stays none) ∙ ap (λ t. t || is_some (find name_cmp m globals)) i.there)
  either_below false true e f =
      let i = below_to n globals f in
      let m = followed_by n (i.s ∷ i.b) in
      below_from n i.s i.b (seen globals es) (either_text m (clear_below o.gone n (i.s ∷ i.b) stays none) ∙ ap (λ t. is_some (find name_cmp m o.over) || t) i.there
      ∙ or_true (is_some (find name_cmp m o.over)))
  either_below false false e f =
      elim (below_in (subtree_at (seen globals es) n)) as (λ t. below_in (subtree_at (seen globals es) n) ≡ t → t ≡ false) [
        | false ↦ λ q. refl
        | true ↦ λ q.
            let i = below_to n (seen globals es) q in
            let m = followed_by n (i.s ∷ i.b) in
            absurd (elim (either_true (is_some (find name_cmp m o.over)) (is_some (find name_cmp m globals)) (sym (either_text m (clear_below o.gone n (i.s ∷ i.b) stays none)) ∙ i.there)) [
              | inl x ↦ let y : below_in (subtree_at o.over n) ≡ true = below_from n i.s i.b o.over x in cc
              | inr x ↦ let y : below_in (subtree_at globals n) ≡ true = below_from n i.s i.b globals x in cc
            ])
      ] refl

  pub data_laid : data_either (data_at o.over n) (data_at globals n) ≡ data_at (seen globals es) n
  data_laid =
      either_by (here_in (subtree_at o.over n)) (below_in (subtree_at o.over n)) (here_in (subtree_at globals n)) (below_in (subtree_at globals n))
      ∙ sym (λ i. data_by
      ((found_here n (seen globals es) ∙ either_text n stays ∙ (λ j. sym (found_here n o.over) j || sym (found_here n globals) j)) i)
      (either_below (below_in (subtree_at o.over n)) (below_in (subtree_at globals n)) refl refl i))
