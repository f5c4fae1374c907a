-- What a change at a place of the list does, and how a list of subscripts is split at its last.
use Rattle.std.proofs.Common.{◌≡◌, ℕ, zero, suc, ◌+◌, ◌<◌, List, [], ◌∷◌, ◌++◌, length, get_or, set, take, drop, refl, sym, ap, ◌∙◌, subst, arith, Result, Ok, Err, OnOk, OnErr}
use Rattle.std.specs.Prelude.{T}
use Rattle.std.specs.declared.cmp.Ordering.TheVariants.{Equal}
use Rattle.std.specs.FinMap.{put, is_sorted}
use Rattle.std.specs.FinMap.Entries.{by_order, is_sorted-put, is_sorted-where_key}
use Rattle.std.specs.Option.{is_none}
use Rattle.std.proofs.lemmas.List.{at_drop_more, get_or_default}
use Rattle.mj_subs.specs.Name.{Name}
use Rattle.mj_subs.specs.Collation.{subscript_cmp, name_cmp}
use Rattle.mj_subs.specs.Laws.Total.{name_cmp_total}
use Rattle.mj_store.specs.declared.store.Direction.{Direction}
use Rattle.mj_store.specs.Nodes.{is_empty, but_last, last_of, first_subscripts, next_past}
use Rattle.mj_store.specs.Questions.{Content, with_subscripts, rest_of, subtree_at, order_under, order_at}
use Rattle.mj_store.specs.Changes.{after_set, after_kill}

-- a write over the element at i
written : {A : Type 0} (xs : List A) (i : ℕ) (y : A) → i < length xs → take i xs ++ y ∷ drop (i + 1) xs ≡ set xs i y
written [] i y lt = absurd (omega arith)
written (x ∷ xs) zero y lt = refl
written (x ∷ xs) (suc i) y lt = ap (λ ys. x ∷ ys) (ap (λ (k : ℕ). take i xs ++ y ∷ drop k (x ∷ xs)) {x = suc i + 1} {y = suc (i + 1)} (omega arith) ∙ written xs i y (omega arith))

-- a name that ties with the one at i is put there
pub put_there : (es : Content) (n : Name) (text : List ℕ) (i : ℕ) (e d : Name × List ℕ) → i < length es → e ≡ get_or es i e → name_cmp n e.0 ≡ Equal
    → put name_cmp n text es ≡ take i es ++ put name_cmp n text (drop i es) → put name_cmp n text es ≡ set es i ((get_or es i d).0, text)
put_there es n text i e d lt here ties among =
    among
    ∙ at_drop_more (λ ys. take i es ++ put name_cmp n text ys) es i e lt
    ∙ ap (λ (x : Name × List ℕ). take i es ++ put name_cmp n text (x ∷ drop (i + 1) es)) (sym here)
    ∙ ap (λ o. take i es ++ by_order o ((n, text) ∷ e ∷ drop (i + 1) es) ((e.0, text) ∷ drop (i + 1) es) (e ∷ put name_cmp n text (drop (i + 1) es))) ties
    ∙ written es i (e.0, text) lt
    ∙ ap (λ (x : Name × List ℕ). set es i (x.0, text)) (here ∙ get_or_default es i e d lt)

-- the names still rise after each change
pub rises_set : (es : Content) (n : Name) (text : List ℕ) → T (is_sorted name_cmp es) → T (is_sorted name_cmp (after_set es n text))
rises_set es n text h = is_sorted-put name_cmp name_cmp_total n text es h

pub rises_kill : (es : Content) (n : Name) → T (is_sorted name_cmp es) → T (is_sorted name_cmp (after_kill es n))
rises_kill es n h = is_sorted-where_key name_cmp (λ m. is_none (rest_of n m)) es h

but_last-append : {K : Type 0} (s : K) (front : List K) (last : K) → but_last s (front ++ last ∷ []) ≡ s ∷ front
but_last-append s [] last = refl
but_last-append s (t ∷ front) last = ap (λ ts. s ∷ ts) (but_last-append t front last)

last_of-append : {K : Type 0} (s : K) (front : List K) (last : K) → last_of s (front ++ last ∷ []) ≡ last
last_of-append s [] last = refl
last_of-append s (t ∷ front) last = last_of-append t front last

-- $ORDER of a name whose last subscript is told apart
abbrev pub OrderSplit : Content → Name → Direction → List (List ℕ) → List ℕ → Type 0
OrderSplit content n way front last =
    order_under content n (front ++ last ∷ []) way ≡ next_past subscript_cmp way (is_empty last) last (first_subscripts (subtree_at content (with_subscripts n front)))

order_split : (content : Content) (n : Name) (way : Direction) (front : List (List ℕ)) (last : List ℕ) → OrderSplit content n way front last
order_split content n way [] last = refl
order_split content n way (s ∷ front) last =
    (λ i. next_past subscript_cmp way (is_empty (last_of-append s front last i)) (last_of-append s front last i)
    (first_subscripts (subtree_at content (with_subscripts n (but_last-append s front last i)))))

pub order_of_split : (content : Content) (n : Name) (way : Direction) (front : List (List ℕ)) (last : List ℕ) → n.subscripts ≡ front ++ last ∷ []
    → order_at content n way ≡ next_past subscript_cmp way (is_empty last) last (first_subscripts (subtree_at content (with_subscripts n front)))
order_of_split content n way front last e = ap (λ (p : List (List ℕ)). order_under content n p way) e ∙ order_split content n way front last

-- also where a change may fail, and then leaves all as it was
pub rises_change : {A E : Type 0} (r : Result A E) (old new : Content) (n : Name) (text : List ℕ) → OnOk r (new ≡ after_set old n text) → OnErr r (new ≡ old) → T (is_sorted name_cmp old)
    → T (is_sorted name_cmp new)
rises_change (Ok x) old new n text ok err h = subst (λ (es : Content). T (is_sorted name_cmp es)) (sym ok) (rises_set old n text h)
rises_change (Err e) old new n text ok err h = subst (λ (es : Content). T (is_sorted name_cmp es)) (sym err) h
