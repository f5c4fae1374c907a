-- Names that stand at a name or below it.
use Rattle.std.proofs.Common.{◌≡◌, ℕ, ◌-◌, ◌<◌, ◌≤◌, Bool, true, false, cond, ◌&&◌, List, [], ◌∷◌, ◌++◌, length, take, get_or, Option, Some, None, refl, sym, ap, ◌∙◌, subst, arith}
use Rattle.std.specs.Ordering.{eq_by_cmp}
use Rattle.std.specs.Str.{bytes_eq}
use Rattle.std.proofs.lemmas.Slice.Eq.{bytes_eq-Decides}
use Rattle.mj_subs.specs.Name.{Name, kinds_eq, are_in_line, overlaps}
use Rattle.mj_subs.specs.Collation.{subscript_cmp}
use Rattle.mj_subs.specs.Laws.Ties.{bytes_eq-subscript_cmp}
use Rattle.mj_store.specs.Nodes.{after_front, but_last}
use Rattle.mj_store.specs.Questions.{same_word, with_subscripts, rest_of}
use Rattle.mj_store.specs.Changes.{followed_by}
use Rattle.mj_txlog.specs.Accesses.{front_of}

-- a value that is there only where a test passes
pub taken_so : {A : Type 0} (b : Bool) (r : Option A) (a : A) → cond b r None ≡ Some a → (b ≡ true) × (r ≡ Some a)
taken_so true r a e = (refl, e)
taken_so false r a e = absurd cc

both_true : (a b : Bool) → (a && b) ≡ true → (a ≡ true) × (b ≡ true)
both_true true b e = (refl, e)
both_true false b e = absurd cc

and_true : (a b : Bool) → a ≡ true → b ≡ true → (a && b) ≡ true
and_true true b p q = q
and_true false b p q = absurd cc

kinds_same : (a b : Bool) → kinds_eq a b ≡ true → a ≡ b
kinds_same true true e = refl
kinds_same true false e = absurd cc
kinds_same false true e = absurd cc
kinds_same false false e = refl

kind_itself : (a : Bool) → kinds_eq a a ≡ true
kind_itself true = refl
kind_itself false = refl

bytes_itself : (s : List ℕ) → bytes_eq s s ≡ true
bytes_itself s = (bytes_eq-Decides s s).1 refl

-- subscripts that tie are the same
pub ties_same : (s t : List ℕ) → eq_by_cmp subscript_cmp s t ≡ true → s ≡ t
ties_same s t e = (bytes_eq-Decides s t).0 (bytes_eq-subscript_cmp s t ∙ e)

pub tie_itself : (s : List ℕ) → eq_by_cmp subscript_cmp s s ≡ true
tie_itself s = sym (bytes_eq-subscript_cmp s s) ∙ bytes_itself s

pub front_split : (p q l : List (List ℕ)) → after_front subscript_cmp p q ≡ Some l → p ++ l ≡ q
front_split [] q l e = sym (cc)
front_split (s ∷ p) [] l e = absurd cc
front_split (s ∷ p) (t ∷ q) l e =
    let h = taken_so (eq_by_cmp subscript_cmp s t) (after_front subscript_cmp p q) l e in
    λ i. ties_same s t h.0 i ∷ front_split p q l h.1 i

pub front_itself : (p : List (List ℕ)) → after_front subscript_cmp p p ≡ Some []
front_itself [] = refl
front_itself (s ∷ p) = ap (λ b. cond b (after_front subscript_cmp p p) None) (tie_itself s) ∙ front_itself p

pub front_more : (p l : List (List ℕ)) → after_front subscript_cmp p (p ++ l) ≡ Some l
front_more [] l = refl
front_more (s ∷ p) l = ap (λ b. cond b (after_front subscript_cmp p (p ++ l)) None) (tie_itself s) ∙ front_more p l

-- two fronts of one list agree as far as both go
fronts_in_line : (ss ts xs a b : List (List ℕ)) → after_front subscript_cmp ss xs ≡ Some a → after_front subscript_cmp ts xs ≡ Some b → are_in_line ss ts ≡ true
fronts_in_line [] ts xs a b p q = refl
fronts_in_line (s ∷ ss) [] xs a b p q = refl
fronts_in_line (s ∷ ss) (t ∷ ts) [] a b p q = absurd cc
fronts_in_line (s ∷ ss) (t ∷ ts) (x ∷ xs) a b p q =
    let g = taken_so (eq_by_cmp subscript_cmp s x) (after_front subscript_cmp ss xs) a p in
    let h = taken_so (eq_by_cmp subscript_cmp t x) (after_front subscript_cmp ts xs) b q in
    and_true (bytes_eq s t) (are_in_line ss ts) ((bytes_eq-Decides s t).1 (ties_same s x g.0 ∙ sym (ties_same t x h.0))) (fronts_in_line ss ts xs a b g.1 h.1)

-- a name that stands below another is the other followed by what it has more
pub rest_split : (n x : Name) (l : List (List ℕ)) → rest_of n x ≡ Some l → followed_by n l ≡ x
rest_split n x l e =
    let h = taken_so (same_word n x) (after_front subscript_cmp n.subscripts x.subscripts) l e in
    let w = both_true (kinds_eq n.global x.global) (bytes_eq n.word x.word) h.0 in
    λ i. record { global = kinds_same n.global x.global w.0 i; word = (bytes_eq-Decides n.word x.word).0 w.1 i; subscripts = front_split n.subscripts x.subscripts l h.1 i }

pub word_itself : (n : Name) (p : List (List ℕ)) → same_word n (with_subscripts n p) ≡ true
word_itself n p = and_true (kinds_eq n.global n.global) (bytes_eq n.word n.word) (kind_itself n.global) (bytes_itself n.word)

pub rest_itself : (n : Name) → rest_of n n ≡ Some []
rest_itself n = ap (λ b. cond b (after_front subscript_cmp n.subscripts n.subscripts) None) (word_itself n n.subscripts) ∙ front_itself n.subscripts

pub rest_followed : (n : Name) (l : List (List ℕ)) → rest_of n (followed_by n l) ≡ Some l
rest_followed n l = ap (λ b. cond b (after_front subscript_cmp n.subscripts (n.subscripts ++ l)) None) (word_itself n (n.subscripts ++ l)) ∙ front_more n.subscripts l

-- two names with a name below both overlap
pub overlap_above : (k n x : Name) (a b : List (List ℕ)) → rest_of k x ≡ Some a → rest_of n x ≡ Some b → overlaps k n ≡ true
overlap_above k n x a b p q =
    let g = taken_so (same_word k x) (after_front subscript_cmp k.subscripts x.subscripts) a p in
    let h = taken_so (same_word n x) (after_front subscript_cmp n.subscripts x.subscripts) b q in
    let v = both_true (kinds_eq k.global x.global) (bytes_eq k.word x.word) g.0 in
    let w = both_true (kinds_eq n.global x.global) (bytes_eq n.word x.word) h.0 in
    let kinds : k.global ≡ n.global = kinds_same k.global x.global v.0 ∙ sym (kinds_same n.global x.global w.0) in
    let words : k.word ≡ n.word = (bytes_eq-Decides k.word x.word).0 v.1 ∙ sym ((bytes_eq-Decides n.word x.word).0 w.1) in
    let kind : kinds_eq k.global n.global ≡ true = subst (λ (g : Bool). kinds_eq k.global g ≡ true) kinds (kind_itself k.global) in
    let word : bytes_eq k.word n.word ≡ true = (bytes_eq-Decides k.word n.word).1 words in
    let line : are_in_line k.subscripts n.subscripts ≡ true = fronts_in_line k.subscripts n.subscripts x.subscripts a b g.1 h.1 in
    (λ i. kind i && word i && line i)

-- all subscripts but the last
but_last_take : (s : List ℕ) (p : List (List ℕ)) → take (length p) (s ∷ p) ≡ but_last s p
but_last_take s [] = refl
but_last_take s (t ∷ p) = ap (λ (ts : List (List ℕ)). s ∷ ts) (but_last_take t p)

pub front_of_take : (p : List (List ℕ)) → 0 < length p → take (length p - 1) p ≡ front_of p
front_of_take [] h = absurd (omega arith)
front_of_take (s ∷ p) h = ap (λ (k : ℕ). take k (s ∷ p)) {x = length (s ∷ p) - 1} {y = length p} (omega arith) ∙ but_last_take s p

-- the last one after them
last_at : (s : List ℕ) (p : List (List ℕ)) (x : List ℕ) → x ≡ get_or (s ∷ p) (length p) x → but_last s p ++ x ∷ [] ≡ s ∷ p
last_at s [] x e = ap (λ (u : List ℕ). u ∷ []) e
last_at s (t ∷ p) x e = ap (λ (ts : List (List ℕ)). s ∷ ts) (last_at t p x e)

pub front_last : (p : List (List ℕ)) (x : List ℕ) → 1 ≤ length p → x ≡ get_or p (length p - 1) x → front_of p ++ x ∷ [] ≡ p
front_last [] x h e = absurd (omega (arith, h))
front_last (s ∷ p) x h e = last_at s p x (e ∙ ap (λ (k : ℕ). get_or (s ∷ p) k x) {x = length (s ∷ p) - 1} {y = length p} (omega arith))

pub none_in : (p : List (List ℕ)) → length p < 1 → p ≡ []
none_in [] h = refl
none_in (s ∷ p) h = absurd (omega (arith, h))
