-- What is answered on a content of globals fits, and what an access leaves is such a content.
use Rattle.std.proofs.Common.{◌≡◌, ℕ, ◌+◌, Bool, true, false, not, cond, ◌&&◌, ◌||◌, List, [], ◌∷◌, ◌++◌, length, map, Option, Some, None, refl, sym, ap, subst, ◌∙◌, arith, length-append}
use Rattle.std.specs.Prelude.{T, nat_lt, nat_le}
use Rattle.std.specs.Option.{option_map, is_none}
use Rattle.std.specs.List.{list_all, list_any, filter, cons_option}
use Rattle.std.specs.Str.{bytes_eq}
use Rattle.std.specs.Ordering.{nat_cmp, is_lt, eq_by_cmp, ordering_then}
use Rattle.std.specs.declared.cmp.Ordering.{Ordering}
use Rattle.std.specs.declared.cmp.Ordering.TheVariants.{Less, Equal, Greater}
use Rattle.std.specs.Cmp.{Equal-is, tied_itself}
use Rattle.std.specs.Cmp.Lexicographic.{slice_cmp}
use Rattle.std.proofs.lemmas.Cmp.{nat_list_cmp_total}
use Rattle.std.proofs.lemmas.Bool.{ltb-false, le-leb, leb-true}
use Rattle.std.proofs.lemmas.List.Folds.{list_all-append}
use Rattle.std.proofs.lemmas.Slice.Eq.{bytes_eq-Decides}
use Rattle.std.specs.FinMap.{is_sorted, put}
use Rattle.std.specs.FinMap.Entries.{below_all, by_order, is_sorted-put, is_sorted-where_key}
use Rattle.mj_subs.specs.Name.{Name, is_word, kinds_eq}
use Rattle.mj_subs.specs.Collation.{subscript_cmp, subscripts_cmp, kind_cmp, name_cmp}
use Rattle.mj_subs.specs.Laws.Total.{name_cmp_total}
use Rattle.mj_subs.specs.Laws.Ties.{subscript_cmp-Equal}
use Rattle.mj_store.specs.Nodes.{is_empty, but_last, last_of, after_front, next_after, data_of, first, first_subscripts, along}
use Rattle.mj_store.specs.Questions.{Content, Subtree, same_word, with_subscripts, rest_of, subtree_at, order_under, query_at}
use Rattle.mj_store.specs.Changes.{after_set, after_kill, followed_by, after_put, is_too_deep}
use Rattle.mj_store.specs.Runs.{answer_of, after_access}
use Rattle.mj_store.specs.declared.access.Access.{Access}
use Rattle.mj_store.specs.declared.access.Access.TheVariants as accesses
use Rattle.mj_store.specs.declared.access.Answer.TheVariants as answers_are
use Rattle.mj_store.specs.declared.store.Direction.{Direction}
use Rattle.mj_ask.specs.Formed.{is_filled, are_filled, are_filled_before_last, is_name, is_global_name, is_search_name, is_subtree, is_access, is_answer}
use Rattle.mj_ask.specs.Fits.{is_data, answers}
use Rattle.mj_ask.specs.Fitting.{is_content, IsAnswered, IsServed}
use Rattle.mj_ask.proofs.Lists.{both_true, and_true, holds, is_true, passes, all_filter, all_filter_map, all_map, passes_least}

-- ---- what follows a name

some_same : {A : Type 0} (x y : A) → Some x ≡ Some y → x ≡ y
some_same x y e = cc

-- a list that begins with a front is the front and the rest
front_is : (p q l : List (List ℕ)) → after_front subscript_cmp p q ≡ Some l → q ≡ p ++ l
front_is [] q l h = some_same q l h
front_is (s ∷ p) [] l h = absurd cc
front_is (s ∷ p) (t ∷ q) l h = by (eq_by_cmp subscript_cmp s t) refl h (front_is p q l)
  where
    by : (b : Bool) → eq_by_cmp subscript_cmp s t ≡ b → cond b (after_front subscript_cmp p q) None ≡ Some l → (after_front subscript_cmp p q ≡ Some l → q ≡ p ++ l) → t ∷ q ≡ s ∷ (p ++ l)
    by true e k next =
        let same : s ≡ t = (subscript_cmp-Equal s t).0 ((Equal-is (subscript_cmp s t)).0 e) in
        λ i. sym same i ∷ next k i
    by false e k next = absurd cc

kinds_same : (a b : Bool) → kinds_eq a b ≡ true → b ≡ a
kinds_same true b e = e
kinds_same false true e = absurd cc
kinds_same false false e = refl

-- a name that is a name n or below it is n followed by the rest
rest_is : (n m : Name) (l : List (List ℕ)) → rest_of n m ≡ Some l → m ≡ followed_by n l
rest_is n m l h = by (same_word n m) refl h
  where
    by : (b : Bool) → (kinds_eq n.global m.global && bytes_eq n.word m.word) ≡ b → cond b (after_front subscript_cmp n.subscripts m.subscripts) None ≡ Some l → m ≡ followed_by n l
    by true e k =
        let p = both_true (kinds_eq n.global m.global) (bytes_eq n.word m.word) e in
        let kinds = kinds_same n.global m.global p.0 in
        let words : m.word ≡ n.word = sym ((bytes_eq-Decides n.word m.word).0 p.1) in
        let lists = front_is n.subscripts m.subscripts l k in
        λ i. record { global = kinds i; word = words i; subscripts = lists i }
    by false e k = absurd cc

-- ---- what stands below a name is formed

-- a list of subscripts that a name may have
abbrev formed : List (List ℕ) → Bool
formed l = nat_le (length l) 31 && are_filled l

formed_end : (p l : List (List ℕ)) → nat_le (length (p ++ l)) 31 ≡ true → are_filled (p ++ l) ≡ true → formed l ≡ true
formed_end p l few filled =
    and_true (nat_le (length l) 31) (are_filled l)
    (le-leb (length l) 31 (omega (arith, leb-true (length (p ++ l)) 31 few, length-append p l)))
    (both_true (are_filled p) (are_filled l) (sym (list_all-append is_filled p l) ∙ filled)).1

-- the parts of a global's name
record IsGlobal (n : Name) : Type 0 where
  kind : n.global ≡ true
  word : is_word n.word ≡ true
  few : nat_le (length n.subscripts) 31 ≡ true
  filled : are_filled n.subscripts ≡ true

global_parts : (n : Name) → is_global_name n ≡ true → IsGlobal n
global_parts n h =
    let a = both_true n.global (is_name n) h in
    let b = both_true (is_word n.word && nat_le (length n.subscripts) 31) (are_filled n.subscripts) a.1 in
    let c = both_true (is_word n.word) (nat_le (length n.subscripts) 31) b.0 in
    record { kind = a.0; word = c.0; few = c.1; filled = b.1 }

global_whole : (n : Name) → IsGlobal n → is_global_name n ≡ true
global_whole n g = λ i. g.kind i && ((g.word i && g.few i) && g.filled i)

rest_formed : (n m : Name) → is_global_name m ≡ true → passes formed (rest_of n m) ≡ true
rest_formed n m h = by (rest_of n m) refl
  where
    by : (o : Option (List (List ℕ))) → rest_of n m ≡ o → passes formed o ≡ true
    by None e = refl
    by (Some l) e =
        let g = global_parts m h in
        let lists : m.subscripts ≡ n.subscripts ++ l = ap (λ (k : Name). k.subscripts) (rest_is n m l e) in
        formed_end n.subscripts l (subst (λ q. nat_le (length q) 31 ≡ true) lists g.few) (subst (λ q. are_filled q ≡ true) lists g.filled)

-- the nodes below a name in a content of globals
subtree_formed : (content : Content) (n : Name) → list_all (λ e. is_global_name e.0) content ≡ true → list_all (λ e. formed e.0) (subtree_at content n) ≡ true
subtree_formed content n h =
    all_filter_map (λ e. is_global_name e.0) (λ e. formed e.0) (λ e. option_map (λ l. (l, e.1)) (rest_of n e.0)) (λ e k. by (rest_of n e.0) e.1 (rest_formed n e.0 k)) content h
  where
    by : (o : Option (List (List ℕ))) (text : List ℕ) → passes formed o ≡ true → passes {A = List (List ℕ) × List ℕ} (λ e. formed e.0) (option_map (λ l. (l, text)) o) ≡ true
    by None text h = refl
    by (Some l) text h = h

filled_of : (nodes : Subtree) → list_all (λ e. formed e.0) nodes ≡ true → list_all (λ e. are_filled e.0) nodes ≡ true
filled_of [] h = refl
filled_of (e ∷ es) h =
    let k = both_true (formed e.0) (list_all (λ d. formed d.0) es) h in
    and_true (are_filled e.0) (list_all (λ d. are_filled d.0) es) (both_true (nat_le (length e.0) 31) (are_filled e.0) k.0).1 (filled_of es k.1)

-- ---- the nodes rise

kind_itself : (b : Bool) → kind_cmp b b ≡ Equal
kind_itself true = refl
kind_itself false = refl

front_cmp : (p l k : List (List ℕ)) → subscripts_cmp (p ++ l) (p ++ k) ≡ subscripts_cmp l k
front_cmp [] l k = refl
front_cmp (s ∷ p) l k = ap (λ r. ordering_then r (subscripts_cmp (p ++ l) (p ++ k))) ((subscript_cmp-Equal s s).1 refl) ∙ front_cmp p l k

-- names that follow one name stand as what follows
followed_cmp : (n : Name) (l k : List (List ℕ)) → name_cmp (followed_by n l) (followed_by n k) ≡ subscripts_cmp l k
followed_cmp n l k =
    ap (λ r. ordering_then r (ordering_then (slice_cmp nat_cmp n.word n.word) (subscripts_cmp (n.subscripts ++ l) (n.subscripts ++ k)))) (kind_itself n.global)
    ∙ ap (λ r. ordering_then r (subscripts_cmp (n.subscripts ++ l) (n.subscripts ++ k))) (tied_itself nat_list_cmp_total n.word)
    ∙ front_cmp n.subscripts l k

and_so : (a b : Bool) → T a → T b → T (a && b)
and_so true b p q = q
and_so false b p q = p

first_so : (a b : Bool) → T (a && b) → T a
first_so true b p = tt
first_so false b p = p

second_so : (a b : Bool) → T (a && b) → T b
second_so true b p = p
second_so false b p = absurd p

module _ (n : Name) where
  node : Option (List (List ℕ)) → List ℕ → Option (List (List ℕ) × List ℕ)
  node o text = option_map (λ l. (l, text)) o

  below_of : (l : List (List ℕ)) (es : Content) → T (below_all name_cmp (followed_by n l) es) → T (below_all subscripts_cmp l (subtree_at es n))
  below_of l [] h = tt
  below_of l (e ∷ es) h =
      by (rest_of n e.0) refl
      (first_so (is_lt (name_cmp (followed_by n l) e.0)) (below_all name_cmp (followed_by n l) es) h)
      (below_of l es (second_so (is_lt (name_cmp (followed_by n l) e.0)) (below_all name_cmp (followed_by n l) es) h))
    where
      by : (o : Option (List (List ℕ))) → rest_of n e.0 ≡ o → T (is_lt (name_cmp (followed_by n l) e.0)) → T (below_all subscripts_cmp l (subtree_at es n))
          → T (below_all subscripts_cmp l (cons_option (option_map (λ k. (k, e.1)) o) (subtree_at es n)))
      by None s p q = q
      by (Some k) s p q =
          and_so (is_lt (subscripts_cmp l k)) (below_all subscripts_cmp l (subtree_at es n))
          (subst (λ r. T (is_lt r)) (ap (name_cmp (followed_by n l)) (rest_is n e.0 k s) ∙ followed_cmp n l k) p) q

  sorted_of : (es : Content) → T (is_sorted name_cmp es) → T (is_sorted subscripts_cmp (subtree_at es n))
  sorted_of [] h = tt
  sorted_of (e ∷ es) h =
      by (rest_of n e.0) refl
      (first_so (below_all name_cmp e.0 es) (is_sorted name_cmp es) h)
      (sorted_of es (second_so (below_all name_cmp e.0 es) (is_sorted name_cmp es) h))
    where
      by : (o : Option (List (List ℕ))) → rest_of n e.0 ≡ o → T (below_all name_cmp e.0 es) → T (is_sorted subscripts_cmp (subtree_at es n))
          → T (is_sorted subscripts_cmp (cons_option (option_map (λ k. (k, e.1)) o) (subtree_at es n)))
      by None s p q = q
      by (Some k) s p q =
          and_so (below_all subscripts_cmp k (subtree_at es n)) (is_sorted subscripts_cmp (subtree_at es n))
          (below_of k es (subst (λ (m : Name). T (below_all name_cmp m es)) (rest_is n e.0 k s) p)) q

-- ---- the answers

-- a content's parts
sorted_in : (content : Content) → is_content content ≡ true → T (is_sorted name_cmp content)
sorted_in content h = holds (is_sorted name_cmp content) (both_true (is_sorted name_cmp content) (list_all (λ e. is_global_name e.0) content) h).0

globals_in : (content : Content) → is_content content ≡ true → list_all (λ e. is_global_name e.0) content ≡ true
globals_in content h = (both_true (is_sorted name_cmp content) (list_all (λ e. is_global_name e.0) content) h).1

data_is : (nodes : Subtree) → is_data (data_of nodes) ≡ true
data_is nodes = by (list_any (λ e. is_empty e.0) nodes) (list_any (λ e. not (is_empty e.0)) nodes)
  where
    by : (a b : Bool) → is_data (cond a 1 0 + cond b 10 0) ≡ true
    by true true = refl
    by true false = refl
    by false true = refl
    by false false = refl

firsts_filled : (nodes : Subtree) → list_all (λ e. are_filled e.0) nodes ≡ true → list_all is_filled (first_subscripts nodes) ≡ true
firsts_filled nodes h = all_filter_map (λ e. are_filled e.0) is_filled (λ e. first e.0) (λ e k. by e.0 k) nodes h
  where
    by : (l : List (List ℕ)) → are_filled l ≡ true → passes is_filled (first l) ≡ true
    by [] h = refl
    by (s ∷ l) h = (both_true (is_filled s) (are_filled l) h).0

order_fits : (content : Content) (n : Name) (p : List (List ℕ)) (way : Direction) → is_content content ≡ true → passes is_filled (order_under content n p way) ≡ true
order_fits content n [] way h = refl
order_fits content n (s ∷ p) way h =
    let nodes = subtree_at content (with_subscripts n (but_last s p)) in
    let filled = firsts_filled nodes (filled_of nodes (subtree_formed content (with_subscripts n (but_last s p)) (globals_in content h))) in
    passes_least is_filled (along way subscript_cmp) (filter (λ t. is_empty (last_of s p) || is_lt (along way subscript_cmp (last_of s p) t)) (first_subscripts nodes))
    (all_filter is_filled (λ t. is_empty (last_of s p) || is_lt (along way subscript_cmp (last_of s p) t)) (first_subscripts nodes) filled)

query_fits : (content : Content) (n : Name) → n.global ≡ true → is_word n.word ≡ true → is_content content ≡ true → passes is_global_name (query_at content n) ≡ true
query_fits content n kind word h =
    let nodes = subtree_at content (with_subscripts n []) in
    let k : list_all (λ e. formed e.0) nodes ≡ true = subtree_formed content (with_subscripts n []) (globals_in content h) in
    by (next_after subscript_cmp n.subscripts nodes)
    (passes_least formed (slice_cmp subscript_cmp) (filter (λ q. is_lt (slice_cmp subscript_cmp n.subscripts q)) (map (λ e. e.0) nodes))
    (all_filter formed (λ q. is_lt (slice_cmp subscript_cmp n.subscripts q)) (map (λ e. e.0) nodes) (all_map formed (λ e. e.0) nodes k)))
  where
    by : (o : Option (List (List ℕ))) → passes formed o ≡ true → passes is_global_name (option_map (with_subscripts n) o) ≡ true
    by None h = refl
    by (Some q) h =
        let k = both_true (nat_le (length q) 31) (are_filled q) h in
        global_whole (with_subscripts n q) (record { kind = kind; word = word; few = k.0; filled = k.1 })

subtree_fits : (content : Content) (n : Name) → is_content content ≡ true → is_subtree (subtree_at content n) ≡ true
subtree_fits content n h =
    and_true (is_sorted subscripts_cmp (subtree_at content n)) (list_all (λ e. are_filled e.0) (subtree_at content n))
    (is_true (is_sorted subscripts_cmp (subtree_at content n)) (sorted_of n content (sorted_in content h)))
    (filled_of (subtree_at content n) (subtree_formed content n (globals_in content h)))

-- ---- the changes

put_formed : (n : Name) (text : List ℕ) (es : Content) → is_global_name n ≡ true → list_all (λ e. is_global_name e.0) es ≡ true → list_all (λ e. is_global_name e.0) (put name_cmp n text es) ≡ true
put_formed n text [] g h = and_true (is_global_name n) true g refl
put_formed n text (e ∷ es) g h =
    let k = both_true (is_global_name e.0) (list_all (λ d. is_global_name d.0) es) h in
    by (name_cmp n e.0) k (put_formed n text es g k.1)
  where
    by : (o : Ordering) → (is_global_name e.0 ≡ true) × (list_all (λ d. is_global_name d.0) es ≡ true) → list_all (λ d. is_global_name d.0) (put name_cmp n text es) ≡ true
        → list_all (λ d. is_global_name d.0) (by_order o ((n, text) ∷ e ∷ es) ((e.0, text) ∷ es) (e ∷ put name_cmp n text es)) ≡ true
    by Less k next = and_true (is_global_name n) (is_global_name e.0 && list_all (λ d. is_global_name d.0) es) g (and_true (is_global_name e.0) (list_all (λ d. is_global_name d.0) es) k.0 k.1)
    by Equal k next = and_true (is_global_name e.0) (list_all (λ d. is_global_name d.0) es) k.0 k.1
    by Greater k next = and_true (is_global_name e.0) (list_all (λ d. is_global_name d.0) (put name_cmp n text es)) k.0 next

set_stays : (n : Name) (text : List ℕ) (content : Content) → is_global_name n ≡ true → is_content content ≡ true → is_content (after_set content n text) ≡ true
set_stays n text content g h =
    and_true (is_sorted name_cmp (after_set content n text)) (list_all (λ e. is_global_name e.0) (after_set content n text))
    (is_true (is_sorted name_cmp (after_set content n text)) (is_sorted-put name_cmp name_cmp_total n text content (sorted_in content h)))
    (put_formed n text content g (globals_in content h))

kill_stays : (n : Name) (content : Content) → is_content content ≡ true → is_content (after_kill content n) ≡ true
kill_stays n content h =
    and_true (is_sorted name_cmp (after_kill content n)) (list_all (λ e. is_global_name e.0) (after_kill content n))
    (is_true (is_sorted name_cmp (after_kill content n)) (is_sorted-where_key name_cmp (λ m. is_none (rest_of n m)) content (sorted_in content h)))
    (all_filter (λ e. is_global_name e.0) (λ e. is_none (rest_of n e.0)) content (globals_in content h))

-- a global's name that is followed by filled subscripts, where there is room for them
followed_formed : (n : Name) (l : List (List ℕ)) → is_global_name n ≡ true → are_filled l ≡ true → nat_lt 31 (length n.subscripts + length l) ≡ false → is_global_name (followed_by n l) ≡ true
followed_formed n l g filled room =
    let p = global_parts n g in
    global_whole (followed_by n l) (record {
      kind = p.kind;
      word = p.word;
      few = le-leb (length (n.subscripts ++ l)) 31 (omega (arith, ltb-false 31 (length n.subscripts + length l) room, length-append n.subscripts l));
      filled = list_all-append is_filled n.subscripts l ∙ and_true (are_filled n.subscripts) (are_filled l) p.filled filled;
    })

neither : (a b : Bool) → (a || b) ≡ false → (a ≡ false) × (b ≡ false)
neither true b e = absurd cc
neither false b e = (refl, e)

put_stays : (n : Name) (nodes : Subtree) (content : Content) → is_global_name n ≡ true → list_all (λ e. are_filled e.0) nodes ≡ true → is_too_deep n nodes ≡ false → is_content content ≡ true
    → is_content (after_put content n nodes) ≡ true
put_stays n [] content g filled room h = h
put_stays n (e ∷ es) content g filled room h =
    let k = both_true (are_filled e.0) (list_all (λ d. are_filled d.0) es) filled in
    let r = neither (nat_lt 31 (length n.subscripts + length e.0)) (is_too_deep n es) room in
    put_stays n es (after_set content (followed_by n e.0) e.1) g k.1 r.1 (set_stays (followed_by n e.0) e.1 content (followed_formed n e.0 g k.0 r.0) h)

put_kept : (n : Name) (nodes : Subtree) (content : Content) (b : Bool) → is_too_deep n nodes ≡ b → is_global_name n ≡ true → list_all (λ e. are_filled e.0) nodes ≡ true
    → is_content content ≡ true → is_content (cond b content (after_put content n nodes)) ≡ true
put_kept n nodes content true deep g filled h = h
put_kept n nodes content false deep g filled h = put_stays n nodes content g filled deep h

-- ---- each access

-- the parts of a name at which a search begins
search_parts : (n : Name) → is_search_name n ≡ true → (n.global ≡ true) × (is_word n.word ≡ true)
search_parts n h =
    let a = both_true ((n.global && is_word n.word) && nat_le (length n.subscripts) 31) (are_filled_before_last n.subscripts) h in
    let b = both_true (n.global && is_word n.word) (nat_le (length n.subscripts) 31) a.0 in
    both_true n.global (is_word n.word) b.0

limited : (n : Name) (nodes : Subtree) (b : Bool) → answers (accesses.Put n nodes) (cond b answers_are.Limit answers_are.Done) ≡ true
limited n nodes true = refl
limited n nodes false = refl

shown : (b : Bool) → (b ≡ true) → (b && true) ≡ true
shown b h = and_true b true h refl

access_fits : (a : Access) (content : Content) → answers a (answer_of a content) ≡ true
access_fits (accesses.Value n) content = refl
access_fits (accesses.Data n) content = data_is (subtree_at content n)
access_fits (accesses.Order n way) content = refl
access_fits (accesses.Query n) content = refl
access_fits (accesses.Subtree n) content = refl
access_fits (accesses.Set n text) content = refl
access_fits (accesses.Kill n) content = refl
access_fits (accesses.Put n nodes) content = limited n nodes (is_too_deep n nodes)

pub answered : (a : Access) → IsAnswered a
answered a content = shown (answers a (answer_of a content)) (access_fits a content)

done_formed : (b : Bool) → is_answer (cond b answers_are.Limit answers_are.Done) ≡ true
done_formed true = refl
done_formed false = refl

access_formed : (a : Access) → is_access a ≡ true → (content : Content) → is_content content ≡ true → is_answer (answer_of a content) ≡ true
access_formed (accesses.Value n) h content k = refl
access_formed (accesses.Data n) h content k = refl
access_formed (accesses.Order n way) h content k = order_fits content n n.subscripts way k
access_formed (accesses.Query n) h content k = let p = search_parts n h in query_fits content n p.0 p.1 k
access_formed (accesses.Subtree n) h content k = subtree_fits content n k
access_formed (accesses.Set n text) h content k = refl
access_formed (accesses.Kill n) h content k = refl
access_formed (accesses.Put n nodes) h content k = done_formed (is_too_deep n nodes)

access_stays : (a : Access) → is_access a ≡ true → (content : Content) → is_content content ≡ true → is_content (after_access a content) ≡ true
access_stays (accesses.Value n) h content k = k
access_stays (accesses.Data n) h content k = k
access_stays (accesses.Order n way) h content k = k
access_stays (accesses.Query n) h content k = k
access_stays (accesses.Subtree n) h content k = k
access_stays (accesses.Set n text) h content k = set_stays n text content h k
access_stays (accesses.Kill n) h content k = kill_stays n content k
access_stays (accesses.Put n nodes) h content k =
    let p = both_true (is_global_name n) (is_subtree nodes) h in
    put_kept n nodes content (is_too_deep n nodes) refl p.0 (both_true (is_sorted subscripts_cmp nodes) (list_all (λ e. are_filled e.0) nodes) p.1).1 k

pub served : (a : Access) → is_access a ≡ true → IsServed a
served a h = record {
  formed = λ content k. access_formed a h content k;
  content = λ content k. access_stays a h content k;
}
