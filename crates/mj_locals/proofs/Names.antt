-- What stands at a name of locals, by its word; and two contents of which all is the same at each name.
use Rattle.std.proofs.Common.{◌≡◌, ℕ, Bool, true, false, cond, not, List, [], ◌∷◌, ◌++◌, Option, Some, None, refl, sym, ap, ◌∙◌, subst}
use Rattle.std.specs.Prelude.{T}
use Rattle.std.specs.declared.cmp.Ordering.{Ordering}
use Rattle.std.specs.declared.cmp.Ordering.TheVariants.{Less, Equal, Greater}
use Rattle.std.specs.Ordering.{is_eq, is_lt, ordering_then}
use Rattle.std.specs.List.{filter, fold}
use Rattle.std.specs.Cmp.{tied_itself}
use Rattle.std.proofs.lemmas.Cmp.{nat_list_cmp_total}
use Rattle.std.specs.FinMap.{find, is_sorted}
use Rattle.std.specs.FinMap.Entries.{below_all, is_sorted-put, is_sorted-where_key, find-put, find-where_key, same_entries}
use Rattle.mj_subs.specs.Name.{Name}
use Rattle.mj_subs.specs.Collation.{name_cmp}
use Rattle.mj_subs.specs.Laws.Total.{name_cmp_total}
use Rattle.mj_subs.specs.Laws.Ties.{name_cmp-IsAntisymmetric}
use Rattle.mj_store.specs.Questions.{Content, Subtree}
use Rattle.mj_store.specs.Changes.{after_set}
use Rattle.mj_tree.specs.Maps.{first_so, second_so, both_so, is_less}
use Rattle.mj_globs.specs.Words.{name, of_word, of_kind}
use Rattle.mj_semantics.specs.State.{Words, covers, put_back}
use Rattle.mj_globs.proofs.Groups.{W, S, name_apart, find_kind}
use Rattle.mj_locals.specs.Trees.{Trees, at, AreTrees}

-- words rise, and the subscripts in each
abbrev pub AreRising : Trees → Type 0
AreRising ts = T (is_sorted W ts) × AreTrees ts

-- ---- what stands at a name

no_word : (w t : List ℕ) (p : List (List ℕ)) (nodes : Subtree) (rest : Content) → find name_cmp (name true w p) (of_word false t nodes ++ rest) ≡ find name_cmp (name true w p) rest
no_word w t p [] rest = refl
no_word w t p (e ∷ es) rest = no_word w t p es rest

pub no_global : (w : List ℕ) (p : List (List ℕ)) (ts : Trees) → find name_cmp (name true w p) (of_kind false ts) ≡ None
no_global w p [] = refl
no_global w p (k ∷ ks) = no_word w k.0 p k.1 (of_kind false ks) ∙ no_global w p ks

-- a local's text is that of its subscripts in its word's tree
abbrev pub text_at : (List ℕ → Subtree) → Name → Option (List ℕ)
text_at f n = cond n.global None (find S n.subscripts (f n.word))

pub find_local : (ts : Trees) → T (is_sorted W ts) → (n : Name) → find name_cmp n (of_kind false ts) ≡ text_at (at ts) n
find_local ts h n = by n.global refl
  where
    by : (g : Bool) → n.global ≡ g → find name_cmp n (of_kind false ts) ≡ cond n.global None (find S n.subscripts (at ts n.word))
    by true e = ap (λ g. find name_cmp (name g n.word n.subscripts) (of_kind false ts)) e
        ∙ no_global n.word n.subscripts ts ∙ sym (ap (λ (g : Bool). cond g None (find S n.subscripts (at ts n.word))) e)
    by false e = ap (λ g. find name_cmp (name g n.word n.subscripts) (of_kind false ts)) e
        ∙ find_kind false n.word n.subscripts ts h ∙ sym (ap (λ (g : Bool). cond g None (find S n.subscripts (at ts n.word))) e)

-- ---- names rise

below_word : (n : Name) (w : List ℕ) (nodes : Subtree) (rest : Content) → ((p : List (List ℕ)) → T (is_lt (name_cmp n (name false w p)))) → T (below_all name_cmp n rest)
    → T (below_all name_cmp n (of_word false w nodes ++ rest))
below_word n w [] rest f h = h
below_word n w (e ∷ es) rest f h = both_so (is_lt (name_cmp n (name false w e.0))) _ (f e.0) (below_word n w es rest f h)

later_word : (s t : List ℕ) (p q : List (List ℕ)) → T (is_lt (W s t)) → T (is_lt (name_cmp (name false s p) (name false t q)))
later_word s t p q h = subst (λ r. T (is_lt r)) (sym (name_apart false s t p q ∙ ap (λ r. ordering_then r (S p q)) (is_less _ h))) tt

below_kind : (s : List ℕ) (p : List (List ℕ)) (ts : Trees) → T (below_all W s ts) → T (below_all name_cmp (name false s p) (of_kind false ts))
below_kind s p [] h = tt
below_kind s p (k ∷ ks) h = below_word (name false s p) k.0 k.1 (of_kind false ks) (λ q. later_word s k.0 p q (first_so _ _ h)) (below_kind s p ks (second_so _ _ h))

below_own : (w : List ℕ) (p : List (List ℕ)) (nodes : Subtree) (rest : Content)
    → T (below_all S p nodes) → T (below_all name_cmp (name false w p) rest) → T (below_all name_cmp (name false w p) (of_word false w nodes ++ rest))
below_own w p [] rest b h = h
below_own w p (e ∷ es) rest b h =
    both_so (is_lt (name_cmp (name false w p) (name false w e.0))) _
    (subst (λ r. T (is_lt r)) (sym (name_apart false w w p e.0 ∙ ap (λ r. ordering_then r (S p e.0)) (tied_itself nat_list_cmp_total w))) (first_so _ _ b))
    (below_own w p es rest (second_so _ _ b) h)

sorted_word : (w : List ℕ) (nodes : Subtree) (rest : Content) → T (is_sorted S nodes)
    → ((p : List (List ℕ)) → T (below_all name_cmp (name false w p) rest)) → T (is_sorted name_cmp rest) → T (is_sorted name_cmp (of_word false w nodes ++ rest))
sorted_word w [] rest s f h = h
sorted_word w (e ∷ es) rest s f h =
    both_so (below_all name_cmp (name false w e.0) (of_word false w es ++ rest)) _ (below_own w e.0 es rest (first_so _ _ s) (f e.0)) (sorted_word w es rest (second_so _ _ s) f h)

-- the names of locals rise
pub names_rise : (ts : Trees) → T (is_sorted W ts) → AreTrees ts → T (is_sorted name_cmp (of_kind false ts))
names_rise [] h g = tt
names_rise (k ∷ ks) h g = sorted_word k.0 k.1 (of_kind false ks) g.0 (λ p. below_kind k.0 p ks (first_so _ _ h)) (names_rise ks (second_so _ _ h) g.1)

-- ---- contents with the same text at each name

pub same_content : (c d : Content) → T (is_sorted name_cmp c) → T (is_sorted name_cmp d) → ((n : Name) → find name_cmp n c ≡ find name_cmp n d) → c ≡ d
same_content c d h g is = same_entries name_cmp name_cmp_total name_cmp-IsAntisymmetric c d h g is

pub find_among : (p : List ℕ → Bool) (c : Content) (n : Name) → find name_cmp n (filter (λ e. p e.0.word) c) ≡ cond (p n.word) (find name_cmp n c) None
find_among p c n = find-where_key name_cmp (λ m. p m.word) n (λ m e. ap (λ (x : Name). p x.word) (sym (name_cmp-IsAntisymmetric n m e))) c

pub sorted_among : (p : List ℕ → Bool) (c : Content) → T (is_sorted name_cmp c) → T (is_sorted name_cmp (filter (λ e. p e.0.word) c))
sorted_among p c h = is_sorted-where_key name_cmp (λ m. p m.word) c h

-- the first, or else the second
abbrev pub or_else : Option (List ℕ) → Option (List ℕ) → Option (List ℕ)
or_else None b = b
or_else (Some a) b = Some a

find_before : (n : Name) (c : Content) → T (below_all name_cmp n c) → find name_cmp n c ≡ None
find_before n [] h = refl
find_before n (e ∷ es) h = ap (λ r. cond (is_eq r) (Some e.1) (find name_cmp n es)) (is_less _ (first_so _ _ h)) ∙ find_before n es (second_so _ _ h)

is_tied : (r : Ordering) → is_eq r ≡ true → r ≡ Equal
is_tied Less e = absurd cc
is_tied Equal e = refl
is_tied Greater e = absurd cc

pub find_all_set : (more c : Content) (n : Name) → T (is_sorted name_cmp more) → find name_cmp n (fold (λ d e. after_set d e.0 e.1) c more) ≡ or_else (find name_cmp n more) (find name_cmp n c)
find_all_set [] c n h = refl
find_all_set (e ∷ es) c n h =
    find_all_set es (after_set c e.0 e.1) n (second_so _ _ h)
    ∙ ap (or_else (find name_cmp n es)) (find-put name_cmp name_cmp_total n e.0 e.1 c)
    ∙ by (is_eq (name_cmp n e.0)) refl
  where
    by : (b : Bool) → is_eq (name_cmp n e.0) ≡ b → or_else (find name_cmp n es) (cond b (Some e.1) (find name_cmp n c)) ≡ or_else (cond b (Some e.1) (find name_cmp n es)) (find name_cmp n c)
    by true t =
        let same : n ≡ e.0 = name_cmp-IsAntisymmetric n e.0 (is_tied _ t) in
        ap (λ (o : Option (List ℕ)). or_else o (Some e.1)) (ap (λ (m : Name). find name_cmp m es) same ∙ find_before e.0 es (first_so _ _ h))
    by false t = refl

pub sorted_all_set : (more c : Content) → T (is_sorted name_cmp c) → T (is_sorted name_cmp (fold (λ d e. after_set d e.0 e.1) c more))
sorted_all_set [] c h = h
sorted_all_set (e ∷ es) c h = sorted_all_set es (after_set c e.0 e.1) (is_sorted-put name_cmp name_cmp_total e.0 e.1 c h)

-- ---- what NEW takes, and what it is put back to

-- the names of some words
pub picked : (p : List ℕ → Bool) (ts us : Trees) → AreRising ts → AreRising us → ((w : List ℕ) → at us w ≡ cond (p w) (at ts w) []) → of_kind false us ≡ filter (λ e. p e.0.word) (of_kind false ts)
picked p ts us h g is =
    same_content (of_kind false us) (filter (λ e. p e.0.word) (of_kind false ts)) (names_rise us g.0 g.1) (sorted_among p (of_kind false ts) (names_rise ts h.0 h.1))
    (λ n. find_local us g.0 n ∙ by n n.global (p n.word) (is n.word) ∙ sym (find_among p (of_kind false ts) n ∙ ap (λ (o : Option (List ℕ)). cond (p n.word) o None) (find_local ts h.0 n)))
  where
    by : (n : Name) (g b : Bool) → at us n.word ≡ cond b (at ts n.word) [] → cond g None (find S n.subscripts (at us n.word)) ≡ cond b (cond g None (find S n.subscripts (at ts n.word))) None
    by n true true e = refl
    by n true false e = refl
    by n false true e = ap (find S n.subscripts) e
    by n false false e = ap (find S n.subscripts) e

-- what is put back
pub restored : (v : Words) (ts now us : Trees) → AreRising ts → AreRising now → AreRising us
    → ((w : List ℕ) → at us w ≡ cond (covers v w) (at ts w) (at now w)) → of_kind false us ≡ put_back (record { words = v; locals = of_kind false ts }) (of_kind false now)
restored v ts now us h k g is =
    let old = filter (λ e. covers v e.0.word) (of_kind false ts) in
    let rest = filter (λ e. not (covers v e.0.word)) (of_kind false now) in
    let rises : T (is_sorted name_cmp old) = sorted_among (covers v) (of_kind false ts) (names_rise ts h.0 h.1) in
    same_content (of_kind false us) (put_back (record { words = v; locals = of_kind false ts }) (of_kind false now))
    (names_rise us g.0 g.1) (sorted_all_set old rest (sorted_among (λ w. not (covers v w)) (of_kind false now) (names_rise now k.0 k.1)))
    (λ n. find_local us g.0 n ∙ by n n.global (covers v n.word) (is n.word)
    ∙ sym (find_all_set old rest n rises
    ∙ (λ i. or_else
    ((find_among (covers v) (of_kind false ts) n ∙ ap (λ (o : Option (List ℕ)). cond (covers v n.word) o None) (find_local ts h.0 n)) i)
    ((find_among (λ w. not (covers v w)) (of_kind false now) n ∙ ap (λ (o : Option (List ℕ)). cond (not (covers v n.word)) o None) (find_local now k.0 n)) i))))
  where
    itself : (o : Option (List ℕ)) → o ≡ or_else o None
    itself None = refl
    itself (Some x) = refl

    by : (n : Name) (g b : Bool) → at us n.word ≡ cond b (at ts n.word) (at now n.word) → cond g None (find S n.subscripts (at us n.word))
        ≡ or_else (cond b (cond g None (find S n.subscripts (at ts n.word))) None) (cond (not b) (cond g None (find S n.subscripts (at now n.word))) None)
    by n true true e = refl
    by n true false e = refl
    by n false true e = ap (find S n.subscripts) e ∙ itself _
    by n false false e = ap (find S n.subscripts) e
