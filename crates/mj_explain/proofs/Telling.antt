-- What a look tells: where a name has a text, its answer is that text, or it isn't answered so.
use Rattle.std.proofs.Common.{◌≡◌, ℕ, ◌+◌, ◌==◌, Bool, true, false, cond, ◌&&◌, ◌||◌, not, List, [], ◌∷◌, map, Option, Some, None, refl, sym, ap, ◌∙◌, subst}
use Rattle.std.specs.Ordering.{is_eq, is_lt, eq_by_cmp}
use Rattle.std.specs.Cmp.{IsTotalOrder, tied_itself}
use Rattle.std.specs.Cmp.Lexicographic.{slice_cmp}
use Rattle.std.specs.FinMap.{find, IsAntisymmetric, slice_cmp-IsAntisymmetric}
use Rattle.std.specs.List.{list_any, filter, cons_option}
use Rattle.std.specs.Option.{option_map}
use Rattle.std.proofs.lemmas.Cmp.{lists_total as std_lists_total}
use Rattle.std.proofs.lemmas.Option.{same_Some}
use Rattle.std.proofs.lemmas.Bool.{and_parts}
use Rattle.mj_subs.specs.Name.{Name, names_eq}
use Rattle.mj_subs.specs.Collation.{subscript_cmp, subscripts_cmp, name_cmp}
use Rattle.mj_subs.specs.Laws.Total.{subscript_cmp_total, subscripts_cmp-slice}
use Rattle.mj_subs.specs.Laws.Ties.{subscript_cmp-IsAntisymmetric, name_cmp-IsAntisymmetric, names_eq-name_cmp}
use Rattle.mj_store.specs.declared.access.Access.{Access}
use Rattle.mj_store.specs.declared.access.Access.TheVariants as accesses
use Rattle.mj_store.specs.declared.access.Answer.{Answer}
use Rattle.mj_store.specs.declared.access.Answer.TheVariants as answers
use Rattle.mj_store.specs.declared.store.Direction.{Direction}
use Rattle.mj_store.specs.Nodes.{along, is_empty, but_last, last_of, first, least, next_past, first_subscripts}
use Rattle.mj_store.specs.Questions.{Content, Subtree, same_word, with_subscripts, rest_of, value_at, subtree_at, data_at, order_under, query_at}
use Rattle.mj_store.specs.Runs.{answer_of}
use Rattle.std.specs.declared.cmp.Ordering.{Ordering}
use Rattle.mj_txlog.proofs.Firsts.{among, IsNext, least_next, eq_is, first_true, second_true, not_both}
use Rattle.mj_txlog.proofs.Stands.{along_total, along_same}
use Rattle.mj_txlog.specs.Laid.{is_before}
use Rattle.mj_explain.specs.Looks.{data_leaves_out, stands_past, next_leaves_out, order_leaves_out, query_leaves_out, is_look, LooksTell}

-- ---- what answers hold

abbrev data_in : Answer → ℕ
data_in (answers.Data told) = told
data_in _ = 0

abbrev order_in : Answer → Option (List ℕ)
order_in (answers.Order next) = next
order_in _ = None

abbrev query_in : Answer → Option Name
query_in (answers.Query next) = next
query_in _ = None

-- ---- where a name with a text stands

same_name : (m n : Name) → eq_by_cmp name_cmp m n ≡ true → m ≡ n
same_name m n e = name_cmp-IsAntisymmetric m n (eq_is (name_cmp m n) e)

-- what passes a test stands in a list with one more in front
any_more : {A : Type 0} (p : A → Bool) (o : Option A) (xs : List A) → list_any p xs ≡ true → list_any p (cons_option o xs) ≡ true
any_more p None xs h = h
any_more p (Some x) xs h = second_true (p x) (list_any p xs) h

-- a name with a text stands below another by what it has behind it
stood : (n : Name) (text : List ℕ) (c : Content) (m : Name) (rest : List (List ℕ)) (p : List (List ℕ) × List ℕ → Bool) → rest_of m n ≡ Some rest
    → p (rest, text) ≡ true → value_at c n ≡ Some text → list_any p (subtree_at c m) ≡ true
stood n text [] m rest p behind passes has = absurd cc
stood n text (e ∷ es) m rest p behind passes has = by (eq_by_cmp name_cmp n e.0) refl has (stood n text es m rest p behind passes)
  where
    by : (b : Bool) → eq_by_cmp name_cmp n e.0 ≡ b → cond b (Some e.1) (find name_cmp n es) ≡ Some text
        → (value_at es n ≡ Some text → list_any p (subtree_at es m) ≡ true) → list_any p (subtree_at (e ∷ es) m) ≡ true
    by true ties is before =
        let at : e.0 ≡ n = sym (same_name n e.0 ties) in
        let one : e.1 ≡ text = same_Some e.1 text is in
        let here : option_map (λ l. (l, e.1)) (rest_of m e.0) ≡ Some (rest, text) =
        (λ i. option_map (λ l. (l, one i)) (rest_of m (at i))) ∙ ap (option_map (λ l. (l, text))) behind in
        ap (λ (o : Option (List (List ℕ) × List ℕ)). list_any p (cons_option o (subtree_at es m))) here
        ∙ first_true (p (rest, text)) (list_any p (subtree_at es m)) passes
    by false apart is before = any_more p (option_map (λ l. (l, e.1)) (rest_of m e.0)) (subtree_at es m) (before is)

-- ---- $DATA

not_own : (b : Bool) (told : ℕ) → 1 + cond b 10 0 ≡ told → ((told == 0) || (told == 10)) ≡ true → ⊥
not_own true told e out = let no : ((11 == 0) || (11 == 10)) ≡ true = ap (λ (k : ℕ). (k == 0) || (k == 10)) e ∙ out in cc
not_own false told e out = let no : ((1 == 0) || (1 == 10)) ≡ true = ap (λ (k : ℕ). (k == 0) || (k == 10)) e ∙ out in cc

not_below : (b : Bool) (told : ℕ) → cond b 1 0 + 10 ≡ told → ((told == 0) || (told == 1)) ≡ true → ⊥
not_below true told e out = let no : ((11 == 0) || (11 == 1)) ≡ true = ap (λ (k : ℕ). (k == 0) || (k == 1)) e ∙ out in cc
not_below false told e out = let no : ((10 == 0) || (10 == 1)) ≡ true = ap (λ (k : ℕ). (k == 0) || (k == 1)) e ∙ out in cc

data_told : (n : Name) (text : List ℕ) (c : Content) (m : Name) (told : ℕ) (o : Option (List (List ℕ))) → rest_of m n ≡ o → data_leaves_out o told ≡ true
    → value_at c n ≡ Some text → data_at c m ≡ told → ⊥
data_told n text c m told None behind out has is = cc
data_told n text c m told (Some []) behind out has is =
    let own : list_any (λ e. is_empty e.0) (subtree_at c m) ≡ true = stood n text c m [] (λ e. is_empty e.0) behind refl has in
    let below : Bool = list_any (λ e. not (is_empty e.0)) (subtree_at c m) in
    not_own below told (sym (ap (λ (b : Bool). cond b 1 0 + cond below 10 0) own) ∙ is) out
data_told n text c m told (Some (t ∷ rest)) behind out has is =
    let under : list_any (λ e. not (is_empty e.0)) (subtree_at c m) ≡ true = stood n text c m (t ∷ rest) (λ e. not (is_empty e.0)) behind refl has in
    let own : Bool = list_any (λ e. is_empty e.0) (subtree_at c m) in
    not_below own told (sym (ap (λ (b : Bool). cond own 1 0 + cond b 10 0) under) ∙ is) out

-- ---- $ORDER

-- one of two, where the second brings another
or_after : (a b c : Bool) → (b ≡ true → c ≡ true) → (a || b) ≡ true → (a || c) ≡ true
or_after true b c f h = refl
or_after false b c f h = f h

-- a list begins with a subscript, by an order
abbrev begins : Direction → List ℕ → Option (List ℕ) → Bool
begins way t None = false
begins way t (Some u) = is_eq (along way subscript_cmp t u)

any_first : (way : Direction) (t : List ℕ) (nodes : Subtree) → list_any (λ e. begins way t (first e.0)) nodes ≡ true
    → among (along way subscript_cmp) (first_subscripts nodes) t ≡ true
any_first way t [] h = absurd cc
any_first way t (e ∷ es) h = by (first e.0) (any_first way t es) h
  where
    by : (o : Option (List ℕ)) → (list_any (λ x. begins way t (first x.0)) es ≡ true → among (along way subscript_cmp) (first_subscripts es) t ≡ true)
        → (begins way t o || list_any (λ x. begins way t (first x.0)) es) ≡ true → among (along way subscript_cmp) (cons_option o (first_subscripts es)) t ≡ true
    by None before k = before k
    by (Some u) before k = or_after (is_eq (along way subscript_cmp t u)) (list_any (λ x. begins way t (first x.0)) es) (among (along way subscript_cmp) (first_subscripts es) t) before k

-- what passes a test, and stands before the next one, isn't passed over
not_passed : {K : Type 0} (Q : K → K → Ordering) (has test : K → Bool) (next : Option K) (u : K) → has u ≡ true → test u ≡ true
    → is_before Q u next ≡ true → IsNext Q has test next → ⊥
not_passed Q has test None u h t b is = not_both (test u) t (is u h)
not_passed Q has test (Some v) u h t b is = not_both (is_lt (Q u v)) b (is.2 u h t)

order_told : (n : Name) (text : List ℕ) (c : Content) (f : Name) (last : List ℕ) (way : Direction) (next : Option (List ℕ)) (o : Option (List (List ℕ)))
    → rest_of f n ≡ o → next_leaves_out way last o next ≡ true → value_at c n ≡ Some text
    → next_past subscript_cmp way (is_empty last) last (first_subscripts (subtree_at c f)) ≡ next → ⊥
order_told n text c f last way next None behind out has is = cc
order_told n text c f last way next (Some []) behind out has is = cc
order_told n text c f last way next (Some (t ∷ rest)) behind out has is =
    let Q : List ℕ → List ℕ → Ordering = along way subscript_cmp in
    let test : List ℕ → Bool = λ u. is_empty last || is_lt (Q last u) in
    let xs : List (List ℕ) = first_subscripts (subtree_at c f) in
    let parts = and_parts (stands_past way last t) (is_before Q t next) out in
    let there : list_any (λ e. begins way t (first e.0)) (subtree_at c f) ≡ true =
    stood n text c f (t ∷ rest) (λ e. begins way t (first e.0)) behind (ap is_eq (tied_itself (along_total way) t)) has in
    not_passed Q (among Q xs) test next t (any_first way t (subtree_at c f) there) parts.0 parts.1
    (subst (IsNext Q (among Q xs) test) is (least_next Q (along_total way) (along_same way) test xs))

order_apart : (n : Name) (text : List ℕ) (c : Content) (m : Name) (p : List (List ℕ)) (way : Direction) (next : Option (List ℕ))
    → order_leaves_out n m p way next ≡ true → value_at c n ≡ Some text → order_under c m p way ≡ next → ⊥
order_apart n text c m [] way next out has is = cc
order_apart n text c m (s ∷ p) way next out has is =
    let f : Name = with_subscripts m (but_last s p) in
    order_told n text c f (last_of s p) way next (rest_of f n) refl out has is

-- ---- $QUERY

any_mapped : (q : List (List ℕ)) (nodes : Subtree) → list_any (λ e. is_eq (slice_cmp subscript_cmp q e.0)) nodes ≡ true
    → among (slice_cmp subscript_cmp) (map (λ e. e.0) nodes) q ≡ true
any_mapped q [] h = cc
any_mapped q (e ∷ es) h =
    or_after (is_eq (slice_cmp subscript_cmp q e.0)) (list_any (λ x. is_eq (slice_cmp subscript_cmp q x.0)) es) (among (slice_cmp subscript_cmp) (map (λ x. x.0) es) q)
    (any_mapped q es) h

lists_total : IsTotalOrder (slice_cmp subscript_cmp)
lists_total = std_lists_total subscript_cmp_total

lists_same : IsAntisymmetric (slice_cmp subscript_cmp)
lists_same = slice_cmp-IsAntisymmetric subscript_cmp-IsAntisymmetric

-- the order of lists, as it is said of names and as it is said of nodes
as_slices : (q : List (List ℕ)) (o : Option (List (List ℕ))) → is_before subscripts_cmp q o ≡ is_before (slice_cmp subscript_cmp) q o
as_slices q None = refl
as_slices q (Some r) = ap is_lt (subscripts_cmp-slice q r)

-- the subscripts of the answer are those that were found
renamed : (m : Name) (o : Option (List (List ℕ))) → option_map (λ x. x.subscripts) (option_map (with_subscripts m) o) ≡ o
renamed m None = refl
renamed m (Some q) = refl

query_apart : (n : Name) (text : List ℕ) (c : Content) (m : Name) (next : Option Name) → query_leaves_out n m next ≡ true → value_at c n ≡ Some text
    → query_at c m ≡ next → ⊥
query_apart n text c m next out has is =
    let Q : List (List ℕ) → List (List ℕ) → Ordering = slice_cmp subscript_cmp in
    let all : Name = with_subscripts m [] in
    let nodes : Subtree = subtree_at c all in
    let xs : List (List (List ℕ)) = map (λ e. e.0) nodes in
    let test : List (List ℕ) → Bool = λ q. is_lt (Q m.subscripts q) in
    let lists : Option (List (List ℕ)) = option_map (λ (x : Name). x.subscripts) next in
    let parts = and_parts (same_word m n && is_lt (subscripts_cmp m.subscripts n.subscripts)) (is_before subscripts_cmp n.subscripts lists) out in
    let first = and_parts (same_word m n) (is_lt (subscripts_cmp m.subscripts n.subscripts)) parts.0 in
    let behind : rest_of all n ≡ Some n.subscripts = ap (λ (b : Bool). cond b (Some n.subscripts) None) first.0 in
    let there : list_any (λ e. is_eq (Q n.subscripts e.0)) nodes ≡ true =
    stood n text c all n.subscripts (λ e. is_eq (Q n.subscripts e.0)) behind (ap is_eq (tied_itself lists_total n.subscripts)) has in
    let found : least Q (filter test xs) ≡ lists = sym (renamed m (least Q (filter test xs))) ∙ ap (option_map (λ (x : Name). x.subscripts)) is in
    not_passed Q (among Q xs) test lists n.subscripts (any_mapped n.subscripts nodes there) (sym (ap is_lt (subscripts_cmp-slice m.subscripts n.subscripts)) ∙ first.1)
    (sym (as_slices n.subscripts lists) ∙ parts.1) (subst (IsNext Q (among Q xs) test) found (least_next Q lists_total lists_same test xs))

-- ---- all

module _ (n : Name) (c : Content) (text : List ℕ) (has : value_at c n ≡ Some text) where
  by_value : (m : Name) (v : Answer) → is_look n (accesses.Value m) v ≡ true → answer_of (accesses.Value m) c ≡ v → v ≡ answers.Value (Some text)
  by_value m (answers.Value t) look is =
      let same : m ≡ n = same_name m n (sym (names_eq-name_cmp m n) ∙ look) in
      sym is ∙ ap (λ (x : Name). answers.Value (value_at c x)) same ∙ ap answers.Value has
  by_value m (answers.Data told) look is = cc
  by_value m (answers.Order next) look is = cc
  by_value m (answers.Query next) look is = cc
  by_value m (answers.Subtree nodes) look is = cc
  by_value m answers.Done look is = cc
  by_value m answers.Limit look is = cc

  by_data : (m : Name) (v : Answer) → is_look n (accesses.Data m) v ≡ true → answer_of (accesses.Data m) c ≡ v → ⊥
  by_data m (answers.Value t) look is = cc
  by_data m (answers.Data told) look is = data_told n text c m told (rest_of m n) refl look has (ap data_in is)
  by_data m (answers.Order next) look is = cc
  by_data m (answers.Query next) look is = cc
  by_data m (answers.Subtree nodes) look is = cc
  by_data m answers.Done look is = cc
  by_data m answers.Limit look is = cc

  by_order : (m : Name) (way : Direction) (v : Answer) → is_look n (accesses.Order m way) v ≡ true → answer_of (accesses.Order m way) c ≡ v → ⊥
  by_order m way (answers.Value t) look is = cc
  by_order m way (answers.Data told) look is = cc
  by_order m way (answers.Order next) look is = order_apart n text c m m.subscripts way next look has (ap order_in is)
  by_order m way (answers.Query next) look is = cc
  by_order m way (answers.Subtree nodes) look is = cc
  by_order m way answers.Done look is = cc
  by_order m way answers.Limit look is = cc

  by_query : (m : Name) (v : Answer) → is_look n (accesses.Query m) v ≡ true → answer_of (accesses.Query m) c ≡ v → ⊥
  by_query m (answers.Value t) look is = cc
  by_query m (answers.Data told) look is = cc
  by_query m (answers.Order next) look is = cc
  by_query m (answers.Query next) look is = query_apart n text c m next look has (ap query_in is)
  by_query m (answers.Subtree nodes) look is = cc
  by_query m answers.Done look is = cc
  by_query m answers.Limit look is = cc

  by_access : (a : Access) (v : Answer) → is_look n a v ≡ true → answer_of a c ≡ v → v ≡ answers.Value (Some text)
  by_access (accesses.Value m) v look is = by_value m v look is
  by_access (accesses.Data m) v look is = absurd (by_data m v look is)
  by_access (accesses.Order m way) v look is = absurd (by_order m way v look is)
  by_access (accesses.Query m) v look is = absurd (by_query m v look is)
  by_access (accesses.Subtree m) v look is = cc
  by_access (accesses.Set m t) v look is = cc
  by_access (accesses.Kill m) v look is = cc
  by_access (accesses.Put m nodes) v look is = cc

pub looks_tell : LooksTell
looks_tell n a v look = λ c text has is. by_access n c text has a v look is
