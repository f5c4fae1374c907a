-- Tests of all elements of a list, and of an option.
use Rattle.std.proofs.Common.{◌≡◌, Bool, true, false, cond, ◌&&◌, List, [], ◌∷◌, map, Option, Some, None, refl, sym, subst}
use Rattle.std.specs.Prelude.{T}
use Rattle.std.specs.List.{list_all, filter, filter_map, fold, cons_option}
use Rattle.std.specs.Ordering.{is_lt}
use Rattle.std.specs.declared.cmp.Ordering.{Ordering}
use Rattle.mj_store.specs.Nodes.{first_of, least}

pub both_true : (a b : Bool) → (a && b) ≡ true → (a ≡ true) × (b ≡ true)
both_true true b e = (refl, e)
both_true false b e = absurd cc

pub and_true : (a b : Bool) → a ≡ true → b ≡ true → (a && b) ≡ true
and_true a b p q = λ i. p i && q i

pub holds : (b : Bool) → b ≡ true → T b
holds b e = subst T (sym e) tt

pub is_true : (b : Bool) → T b → b ≡ true
is_true true p = refl
is_true false p = absurd p

-- what an option holds passes a test, if it holds anything
abbrev pub passes : {A : Type 0} → (A → Bool) → Option A → Bool
passes p None = true
passes p (Some x) = p x

pub all_filter : {A : Type 0} (p q : A → Bool) (xs : List A) → list_all p xs ≡ true → list_all p (filter q xs) ≡ true
all_filter p q [] h = refl
all_filter p q (x ∷ xs) h = by (q x) (both_true (p x) (list_all p xs) h) (all_filter p q xs (both_true (p x) (list_all p xs) h).1)
  where
    by : (b : Bool) → (p x ≡ true) × (list_all p xs ≡ true) → list_all p (filter q xs) ≡ true → list_all p (cond b (x ∷ filter q xs) (filter q xs)) ≡ true
    by true h k = and_true (p x) (list_all p (filter q xs)) h.0 k
    by false h k = k

pub all_filter_map : {A B : Type 0} (p : A → Bool) (q : B → Bool) (f : A → Option B) → ((x : A) → p x ≡ true → passes q (f x) ≡ true) → (xs : List A) → list_all p xs ≡ true
    → list_all q (filter_map f xs) ≡ true
all_filter_map {B = B} p q f g [] h = refl
all_filter_map {B = B} p q f g (x ∷ xs) h =
    let k = both_true (p x) (list_all p xs) h in
    by (f x) (g x k.0) (all_filter_map p q f g xs k.1)
  where
    by : (o : Option B) → passes q o ≡ true → list_all q (filter_map f xs) ≡ true → list_all q (cons_option o (filter_map f xs)) ≡ true
    by None h k = k
    by (Some y) h k = and_true (q y) (list_all q (filter_map f xs)) h k

pub all_map : {A B : Type 0} (q : B → Bool) (f : A → B) (xs : List A) → list_all (λ x. q (f x)) xs ≡ true → list_all q (map f xs) ≡ true
all_map q f [] h = refl
all_map q f (x ∷ xs) h = let k = both_true (q (f x)) (list_all (λ y. q (f y)) xs) h in and_true (q (f x)) (list_all q (map f xs)) k.0 (all_map q f xs k.1)

-- the least of a list passes what all its elements pass
pub passes_least : {A : Type 0} (p : A → Bool) (R : A → A → Ordering) (xs : List A) → list_all p xs ≡ true → passes p (least R xs) ≡ true
passes_least {A = A} p R xs h = on xs None refl h
  where
    first : (o : Option A) (x : A) → passes p o ≡ true → p x ≡ true → passes p (first_of R o x) ≡ true
    first None x h k = k
    first (Some y) x h k = by (is_lt (R x y))
      where
        by : (b : Bool) → passes p (cond b (Some x) (Some y)) ≡ true
        by true = k
        by false = h

    on : (xs : List A) (o : Option A) → passes p o ≡ true → list_all p xs ≡ true → passes p (fold (first_of R) o xs) ≡ true
    on [] o h k = h
    on (x ∷ xs) o h k = let l = both_true (p x) (list_all p xs) k in on xs (first_of R o x) (first o x h l.0) l.1
