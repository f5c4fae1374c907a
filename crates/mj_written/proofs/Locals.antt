-- Locals that are formed stay so, and what stands at a name of theirs and below it is formed.
use Rattle.std.proofs.Common.{◌≡◌, ℕ, ◌+◌, Bool, true, false, not, cond, ◌&&◌, ◌||◌, List, [], ◌∷◌, ◌++◌, length, Option, Some, None, refl, sym, ap, subst, ◌∙◌, arith, length-append}
use Rattle.std.specs.Prelude.{T, nat_lt, nat_le}
use Rattle.std.specs.Option.{option_map, is_none}
use Rattle.std.specs.List.{list_all, filter, fold, cons_option}
use Rattle.std.specs.Str.{bytes_eq}
use Rattle.std.specs.Ordering.{nat_cmp, is_lt, eq_by_cmp, ordering_then}
use Rattle.std.specs.declared.cmp.Ordering.{Ordering}
use Rattle.std.specs.declared.cmp.Ordering.TheVariants.{Less, Equal, Greater}
use Rattle.std.specs.Cmp.{Equal-is, tied_itself}
use Rattle.std.specs.Cmp.Lexicographic.{slice_cmp}
use Rattle.std.proofs.lemmas.Cmp.{nat_list_cmp_total}
use Rattle.std.proofs.lemmas.Bool.{ltb-false, le-leb, leb-true}
use Rattle.std.proofs.lemmas.List.Folds.{list_all-append}
use Rattle.std.proofs.lemmas.Slice.Eq.{bytes_eq-Decides}
use Rattle.std.specs.FinMap.{is_sorted, put}
use Rattle.std.specs.FinMap.Entries.{below_all, by_order, is_sorted-put, is_sorted-where_key}
use Rattle.mj_subs.specs.Name.{Name, is_word, kinds_eq}
use Rattle.mj_subs.specs.Collation.{subscript_cmp, subscripts_cmp, kind_cmp, name_cmp}
use Rattle.mj_subs.specs.Laws.Total.{name_cmp_total}
use Rattle.mj_subs.specs.Laws.Ties.{subscript_cmp-Equal}
use Rattle.mj_store.specs.Nodes.{after_front}
use Rattle.mj_store.specs.Questions.{Content, Subtree, same_word, rest_of, subtree_at}
use Rattle.mj_store.specs.Changes.{after_set, after_kill, followed_by, after_put, is_too_deep}
use Rattle.mj_ask.specs.Formed.{is_filled, are_filled, is_name, is_subtree}
use Rattle.mj_ask.proofs.Lists.{both_true, and_true, holds, is_true, passes, all_filter, all_filter_map}
use Rattle.mj_semantics.specs.State.{Locals}
use Rattle.mj_written.specs.Formed.{is_local_name, are_locals}

-- ---- what follows a name

some_same : {A : Type 0} (x y : A) → Some x ≡ Some y → x ≡ y
some_same x y e = cc

-- a list that begins with a front is the front and the rest
front_is : (p q l : List (List ℕ)) → after_front subscript_cmp p q ≡ Some l → q ≡ p ++ l
front_is [] q l h = some_same q l h
front_is (s ∷ p) [] l h = absurd cc
front_is (s ∷ p) (t ∷ q) l h = by (eq_by_cmp subscript_cmp s t) refl h (front_is p q l)
  where
    by : (b : Bool) → eq_by_cmp subscript_cmp s t ≡ b → cond b (after_front subscript_cmp p q) None ≡ Some l → (after_front subscript_cmp p q ≡ Some l → q ≡ p ++ l) → t ∷ q ≡ s ∷ (p ++ l)
    by true e k next =
        let same : s ≡ t = (subscript_cmp-Equal s t).0 ((Equal-is (subscript_cmp s t)).0 e) in
        λ i. sym same i ∷ next k i
    by false e k next = absurd cc

kinds_same : (a b : Bool) → kinds_eq a b ≡ true → b ≡ a
kinds_same true b e = e
kinds_same false true e = absurd cc
kinds_same false false e = refl

-- a name that is a name n or below it is n followed by the rest
rest_is : (n m : Name) (l : List (List ℕ)) → rest_of n m ≡ Some l → m ≡ followed_by n l
rest_is n m l h = by (same_word n m) refl h
  where
    by : (b : Bool) → (kinds_eq n.global m.global && bytes_eq n.word m.word) ≡ b → cond b (after_front subscript_cmp n.subscripts m.subscripts) None ≡ Some l → m ≡ followed_by n l
    by true e k =
        let p = both_true (kinds_eq n.global m.global) (bytes_eq n.word m.word) e in
        let kinds = kinds_same n.global m.global p.0 in
        let words : m.word ≡ n.word = sym ((bytes_eq-Decides n.word m.word).0 p.1) in
        let lists = front_is n.subscripts m.subscripts l k in
        λ i. record { global = kinds i; word = words i; subscripts = lists i }
    by false e k = absurd cc

-- ---- what stands below a name is formed

-- a list of subscripts that a name may have
abbrev formed : List (List ℕ) → Bool
formed l = nat_le (length l) 31 && are_filled l

formed_end : (p l : List (List ℕ)) → nat_le (length (p ++ l)) 31 ≡ true → are_filled (p ++ l) ≡ true → formed l ≡ true
formed_end p l few filled =
    and_true (nat_le (length l) 31) (are_filled l)
    (le-leb (length l) 31 (omega (arith, leb-true (length (p ++ l)) 31 few, length-append p l)))
    (both_true (are_filled p) (are_filled l) (sym (list_all-append is_filled p l) ∙ filled)).1

-- the parts of a local's name
pub record IsLocal (n : Name) : Type 0 where
  pub kind : n.global ≡ false
  pub word : is_word n.word ≡ true
  pub few : nat_le (length n.subscripts) 31 ≡ true
  pub filled : are_filled n.subscripts ≡ true

is_false : (b : Bool) → not b ≡ true → b ≡ false
is_false false h = refl
is_false true h = absurd cc

local_parts : (n : Name) → is_local_name n ≡ true → IsLocal n
local_parts n h =
    let a = both_true (not n.global) (is_name n) h in
    let b = both_true (is_word n.word && nat_le (length n.subscripts) 31) (are_filled n.subscripts) a.1 in
    let c = both_true (is_word n.word) (nat_le (length n.subscripts) 31) b.0 in
    record { kind = is_false n.global a.0; word = c.0; few = c.1; filled = b.1 }

pub local_whole : (n : Name) → IsLocal n → is_local_name n ≡ true
local_whole n g = λ i. not (g.kind i) && ((g.word i && g.few i) && g.filled i)

rest_formed : (n m : Name) → is_local_name m ≡ true → passes formed (rest_of n m) ≡ true
rest_formed n m h = by (rest_of n m) refl
  where
    by : (o : Option (List (List ℕ))) → rest_of n m ≡ o → passes formed o ≡ true
    by None e = refl
    by (Some l) e =
        let g = local_parts m h in
        let lists : m.subscripts ≡ n.subscripts ++ l = ap (λ (k : Name). k.subscripts) (rest_is n m l e) in
        formed_end n.subscripts l (subst (λ q. nat_le (length q) 31 ≡ true) lists g.few) (subst (λ q. are_filled q ≡ true) lists g.filled)

-- the nodes below a name among locals
subtree_formed : (locals : Locals) (n : Name) → list_all (λ e. is_local_name e.0) locals ≡ true → list_all (λ e. formed e.0) (subtree_at locals n) ≡ true
subtree_formed locals n h =
    all_filter_map (λ e. is_local_name e.0) (λ e. formed e.0) (λ e. option_map (λ l. (l, e.1)) (rest_of n e.0)) (λ e k. by (rest_of n e.0) e.1 (rest_formed n e.0 k)) locals h
  where
    by : (o : Option (List (List ℕ))) (text : List ℕ) → passes formed o ≡ true → passes {A = List (List ℕ) × List ℕ} (λ e. formed e.0) (option_map (λ l. (l, text)) o) ≡ true
    by None text h = refl
    by (Some l) text h = h

filled_of : (nodes : Subtree) → list_all (λ e. formed e.0) nodes ≡ true → list_all (λ e. are_filled e.0) nodes ≡ true
filled_of [] h = refl
filled_of (e ∷ es) h =
    let k = both_true (formed e.0) (list_all (λ d. formed d.0) es) h in
    and_true (are_filled e.0) (list_all (λ d. are_filled d.0) es) (both_true (nat_le (length e.0) 31) (are_filled e.0) k.0).1 (filled_of es k.1)

-- ---- the nodes rise

kind_itself : (b : Bool) → kind_cmp b b ≡ Equal
kind_itself true = refl
kind_itself false = refl

front_cmp : (p l k : List (List ℕ)) → subscripts_cmp (p ++ l) (p ++ k) ≡ subscripts_cmp l k
front_cmp [] l k = refl
front_cmp (s ∷ p) l k = ap (λ r. ordering_then r (subscripts_cmp (p ++ l) (p ++ k))) ((subscript_cmp-Equal s s).1 refl) ∙ front_cmp p l k

-- names that follow one name stand as what follows
followed_cmp : (n : Name) (l k : List (List ℕ)) → name_cmp (followed_by n l) (followed_by n k) ≡ subscripts_cmp l k
followed_cmp n l k =
    ap (λ r. ordering_then r (ordering_then (slice_cmp nat_cmp n.word n.word) (subscripts_cmp (n.subscripts ++ l) (n.subscripts ++ k)))) (kind_itself n.global)
    ∙ ap (λ r. ordering_then r (subscripts_cmp (n.subscripts ++ l) (n.subscripts ++ k))) (tied_itself nat_list_cmp_total n.word)
    ∙ front_cmp n.subscripts l k

and_so : (a b : Bool) → T a → T b → T (a && b)
and_so true b p q = q
and_so false b p q = p

first_so : (a b : Bool) → T (a && b) → T a
first_so true b p = tt
first_so false b p = p

second_so : (a b : Bool) → T (a && b) → T b
second_so true b p = p
second_so false b p = absurd p

module _ (n : Name) where
  below_of : (l : List (List ℕ)) (es : Content) → T (below_all name_cmp (followed_by n l) es) → T (below_all subscripts_cmp l (subtree_at es n))
  below_of l [] h = tt
  below_of l (e ∷ es) h =
      by (rest_of n e.0) refl
      (first_so (is_lt (name_cmp (followed_by n l) e.0)) (below_all name_cmp (followed_by n l) es) h)
      (below_of l es (second_so (is_lt (name_cmp (followed_by n l) e.0)) (below_all name_cmp (followed_by n l) es) h))
    where
      by : (o : Option (List (List ℕ))) → rest_of n e.0 ≡ o → T (is_lt (name_cmp (followed_by n l) e.0))
          → T (below_all subscripts_cmp l (subtree_at es n)) → T (below_all subscripts_cmp l (cons_option (option_map (λ k. (k, e.1)) o) (subtree_at es n)))
      by None s p q = q
      by (Some k) s p q =
          and_so (is_lt (subscripts_cmp l k)) (below_all subscripts_cmp l (subtree_at es n))
          (subst (λ r. T (is_lt r)) (ap (name_cmp (followed_by n l)) (rest_is n e.0 k s) ∙ followed_cmp n l k) p) q

  sorted_of : (es : Content) → T (is_sorted name_cmp es) → T (is_sorted subscripts_cmp (subtree_at es n))
  sorted_of [] h = tt
  sorted_of (e ∷ es) h =
      by (rest_of n e.0) refl
      (first_so (below_all name_cmp e.0 es) (is_sorted name_cmp es) h)
      (sorted_of es (second_so (below_all name_cmp e.0 es) (is_sorted name_cmp es) h))
    where
      by : (o : Option (List (List ℕ))) → rest_of n e.0 ≡ o
          → T (below_all name_cmp e.0 es) → T (is_sorted subscripts_cmp (subtree_at es n)) → T (is_sorted subscripts_cmp (cons_option (option_map (λ k. (k, e.1)) o) (subtree_at es n)))
      by None s p q = q
      by (Some k) s p q =
          and_so (below_all subscripts_cmp k (subtree_at es n)) (is_sorted subscripts_cmp (subtree_at es n))
          (below_of k es (subst (λ (m : Name). T (below_all name_cmp m es)) (rest_is n e.0 k s) p)) q

-- ---- the locals

-- the parts of formed locals
sorted_in : (locals : Locals) → are_locals locals ≡ true → T (is_sorted name_cmp locals)
sorted_in locals h = holds (is_sorted name_cmp locals) (both_true (is_sorted name_cmp locals) (list_all (λ e. is_local_name e.0) locals) h).0

names_in : (locals : Locals) → are_locals locals ≡ true → list_all (λ e. is_local_name e.0) locals ≡ true
names_in locals h = (both_true (is_sorted name_cmp locals) (list_all (λ e. is_local_name e.0) locals) h).1

pub subtree_fits : (locals : Locals) (n : Name) → are_locals locals ≡ true → is_subtree (subtree_at locals n) ≡ true
subtree_fits locals n h =
    and_true (is_sorted subscripts_cmp (subtree_at locals n)) (list_all (λ e. are_filled e.0) (subtree_at locals n))
    (is_true (is_sorted subscripts_cmp (subtree_at locals n)) (sorted_of n locals (sorted_in locals h)))
    (filled_of (subtree_at locals n) (subtree_formed locals n (names_in locals h)))

put_formed : (n : Name) (text : List ℕ) (es : Content) → is_local_name n ≡ true → list_all (λ e. is_local_name e.0) es ≡ true → list_all (λ e. is_local_name e.0) (put name_cmp n text es) ≡ true
put_formed n text [] g h = and_true (is_local_name n) true g refl
put_formed n text (e ∷ es) g h =
    let k = both_true (is_local_name e.0) (list_all (λ d. is_local_name d.0) es) h in
    by (name_cmp n e.0) k (put_formed n text es g k.1)
  where
    by : (o : Ordering) → (is_local_name e.0 ≡ true) × (list_all (λ d. is_local_name d.0) es ≡ true) → list_all (λ d. is_local_name d.0) (put name_cmp n text es) ≡ true
        → list_all (λ d. is_local_name d.0) (by_order o ((n, text) ∷ e ∷ es) ((e.0, text) ∷ es) (e ∷ put name_cmp n text es)) ≡ true
    by Less k next = and_true (is_local_name n) (is_local_name e.0 && list_all (λ d. is_local_name d.0) es) g (and_true (is_local_name e.0) (list_all (λ d. is_local_name d.0) es) k.0 k.1)
    by Equal k next = and_true (is_local_name e.0) (list_all (λ d. is_local_name d.0) es) k.0 k.1
    by Greater k next = and_true (is_local_name e.0) (list_all (λ d. is_local_name d.0) (put name_cmp n text es)) k.0 next

pub set_stays : (n : Name) (text : List ℕ) (locals : Locals) → is_local_name n ≡ true → are_locals locals ≡ true → are_locals (after_set locals n text) ≡ true
set_stays n text locals g h =
    and_true (is_sorted name_cmp (after_set locals n text)) (list_all (λ e. is_local_name e.0) (after_set locals n text))
    (is_true (is_sorted name_cmp (after_set locals n text)) (is_sorted-put name_cmp name_cmp_total n text locals (sorted_in locals h)))
    (put_formed n text locals g (names_in locals h))

pub kill_stays : (n : Name) (locals : Locals) → are_locals locals ≡ true → are_locals (after_kill locals n) ≡ true
kill_stays n locals h =
    and_true (is_sorted name_cmp (after_kill locals n)) (list_all (λ e. is_local_name e.0) (after_kill locals n))
    (is_true (is_sorted name_cmp (after_kill locals n)) (is_sorted-where_key name_cmp (λ m. is_none (rest_of n m)) locals (sorted_in locals h)))
    (all_filter (λ e. is_local_name e.0) (λ e. is_none (rest_of n e.0)) locals (names_in locals h))

-- a local's name that is followed by filled subscripts, where there is room for them
followed_formed : (n : Name) (l : List (List ℕ)) → is_local_name n ≡ true → are_filled l ≡ true → nat_lt 31 (length n.subscripts + length l) ≡ false → is_local_name (followed_by n l) ≡ true
followed_formed n l g filled room =
    let p = local_parts n g in
    local_whole (followed_by n l) (record {
      kind = p.kind;
      word = p.word;
      few = le-leb (length (n.subscripts ++ l)) 31 (omega (arith, ltb-false 31 (length n.subscripts + length l) room, length-append n.subscripts l));
      filled = list_all-append is_filled n.subscripts l ∙ and_true (are_filled n.subscripts) (are_filled l) p.filled filled;
    })

neither : (a b : Bool) → (a || b) ≡ false → (a ≡ false) × (b ≡ false)
neither true b e = absurd cc
neither false b e = (refl, e)

put_stays : (n : Name) (nodes : Subtree) (locals : Locals)
    → is_local_name n ≡ true → list_all (λ e. are_filled e.0) nodes ≡ true → is_too_deep n nodes ≡ false → are_locals locals ≡ true → are_locals (after_put locals n nodes) ≡ true
put_stays n [] locals g filled room h = h
put_stays n (e ∷ es) locals g filled room h =
    let k = both_true (are_filled e.0) (list_all (λ d. are_filled d.0) es) filled in
    let r = neither (nat_lt 31 (length n.subscripts + length e.0)) (is_too_deep n es) room in
    put_stays n es (after_set locals (followed_by n e.0) e.1) g k.1 r.1 (set_stays (followed_by n e.0) e.1 locals (followed_formed n e.0 g k.0 r.0) h)

pub put_kept : (n : Name) (nodes : Subtree) (locals : Locals) (b : Bool) → is_too_deep n nodes ≡ b
    → is_local_name n ≡ true → list_all (λ e. are_filled e.0) nodes ≡ true → are_locals locals ≡ true → are_locals (cond b locals (after_put locals n nodes)) ≡ true
put_kept n nodes locals true deep g filled h = h
put_kept n nodes locals false deep g filled h = put_stays n nodes locals g filled deep h

-- those of some words are formed too
pub some_stay : (p : List ℕ → Bool) (locals : Locals) → are_locals locals ≡ true → are_locals (filter (λ e. p e.0.word) locals) ≡ true
some_stay p locals h =
    and_true (is_sorted name_cmp (filter (λ e. p e.0.word) locals)) (list_all (λ e. is_local_name e.0) (filter (λ e. p e.0.word) locals))
    (is_true (is_sorted name_cmp (filter (λ e. p e.0.word) locals)) (is_sorted-where_key name_cmp (λ m. p m.word) locals (sorted_in locals h)))
    (all_filter (λ e. is_local_name e.0) (λ e. p e.0.word) locals (names_in locals h))

-- one by one, others get their values
pub all_set : (es now : Locals) → list_all (λ e. is_local_name e.0) es ≡ true → are_locals now ≡ true → are_locals (fold (λ c e. after_set c e.0 e.1) now es) ≡ true
all_set [] now k h = h
all_set (e ∷ es) now k h =
    let p = both_true (is_local_name e.0) (list_all (λ d. is_local_name d.0) es) k in
    all_set es (after_set now e.0 e.1) p.1 (set_stays e.0 e.1 now p.0 h)

pub put_in : (es now : Locals) → are_locals es ≡ true → are_locals now ≡ true → are_locals (fold (λ c e. after_set c e.0 e.1) now es) ≡ true
put_in es now k h = all_set es now (names_in es k) h
