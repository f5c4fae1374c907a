-- Lists of entries with counts, in the order of their keys: what a put or a filter leaves of how many pass a test.
use Rattle.std.proofs.Common.{◌≡◌, ℕ, ◌+◌, ◌≤◌, Bool, true, false, cond, not, ◌||◌, ◌&&◌, List, [], ◌∷◌, Some, None, refl, sym, ap, ◌∙◌, subst, arith, count_by}
use Rattle.std.specs.Prelude.{T}
use Rattle.std.specs.List.{list_any, filter}
use Rattle.std.specs.declared.cmp.Ordering.{Ordering}
use Rattle.std.specs.declared.cmp.Ordering.TheVariants.{Less, Equal, Greater}
use Rattle.std.specs.Ordering.{is_lt, is_eq, eq_by_cmp}
use Rattle.std.specs.Cmp.{IsTotalOrder}
use Rattle.std.specs.FinMap.{find, put, is_sorted}
use Rattle.std.specs.FinMap.Entries.{by_order, below_all}
use Rattle.std.proofs.lemmas.List.Sums.{sum_by-cons}

-- ---- tests

pub first : (a b : Bool) → T (a && b) → T a
first true b p = tt
first false b p = absurd p

pub second : (a b : Bool) → T (a && b) → T b
second true b p = p
second false b p = absurd p

pub both : (a b : Bool) → T a → T b → T (a && b)
both true b p q = q
both false b p q = absurd p

pub is_less : (o : Ordering) → T (is_lt o) → o ≡ Less
is_less Less p = refl
is_less Equal p = absurd p
is_less Greater p = absurd p

pub or_left : (a b : Bool) → a ≡ true → (a || b) ≡ true
or_left a b e = ap (λ x. x || b) e

pub or_right : (a b : Bool) → b ≡ true → (a || b) ≡ true
or_right true b e = refl
or_right false b e = e

pub neither : (a b : Bool) → (a || b) ≡ false → (a ≡ false) × (b ≡ false)
neither true b e = absurd (let never : ⊥ = cc in never)
neither false b e = (refl, e)

pub nor : (a b : Bool) → a ≡ false → b ≡ false → (a || b) ≡ false
nor a b e f = ap (λ x. x || b) e ∙ f

pub one_or_other : (a b : Bool) (Q : Type 0) → (a || b) ≡ true → (a ≡ true → Q) → (b ≡ true → Q) → Q
one_or_other true b Q e p q = p refl
one_or_other false b Q e p q = q e

module _ {K : Type 0} (R : K → K → Ordering) where
  -- ---- how many keys pass

  -- how many keys pass, whether a count does, and the entries of other keys
  abbrev pub keys_passing : (K → Bool) → List (K × ℕ) → ℕ
  keys_passing g es = count_by (λ e. g e.0) es

  abbrev pub any_count : (ℕ → Bool) → List (K × ℕ) → Bool
  any_count p es = list_any (λ e. p e.1) es

  abbrev pub others : K → List (K × ℕ) → List (K × ℕ)
  others k es = filter (λ e. not (eq_by_cmp R k e.0)) es

  counted : (g : K → Bool) (e : K × ℕ) (es : List (K × ℕ)) → keys_passing g (e ∷ es) ≡ cond (g e.0) 1 0 + keys_passing g es
  counted g e es = sum_by-cons (λ (x : K × ℕ). cond (g x.0) 1 0) e es

  -- a key of another kind changes nothing
  pub count-put_other : (g : K → Bool) (k : K) (v : ℕ) (es : List (K × ℕ)) → g k ≡ false → keys_passing g (put R k v es) ≡ keys_passing g es
  count-put_other g k v [] fails = counted g (k, v) [] ∙ ap (λ b. cond b 1 0 + 0) fails
  count-put_other g k v (e ∷ es) fails =
      elim (R k e.0) as (λ o. keys_passing g (by_order o ((k, v) ∷ e ∷ es) ((e.0, v) ∷ es) (e ∷ put R k v es)) ≡ keys_passing g (e ∷ es)) [
        | Less ↦ counted g (k, v) (e ∷ es) ∙ ap (λ b. cond b 1 0 + keys_passing g (e ∷ es)) fails ∙ omega arith
        | Equal ↦ counted g (e.0, v) es ∙ sym (counted g e es)
        | Greater ↦ counted g e (put R k v es) ∙ ap (λ n. cond (g e.0) 1 0 + n) (count-put_other g k v es fails) ∙ sym (counted g e es)
      ]

  -- no key goes
  pub count-le-put : (g : K → Bool) (k : K) (v : ℕ) (es : List (K × ℕ)) → keys_passing g es ≤ keys_passing g (put R k v es)
  count-le-put g k v [] = omega arith
  count-le-put g k v (e ∷ es) =
      elim (R k e.0) as (λ o. keys_passing g (e ∷ es) ≤ keys_passing g (by_order o ((k, v) ∷ e ∷ es) ((e.0, v) ∷ es) (e ∷ put R k v es))) [
        | Less ↦ omega (arith, counted g (k, v) (e ∷ es))
        | Equal ↦ omega (arith, counted g (e.0, v) es, counted g e es)
        | Greater ↦ omega (arith, counted g e (put R k v es), count-le-put g k v es, counted g e es)
      ]

  -- a new key is one more
  pub count-put_new : (g : K → Bool) (k : K) (v : ℕ) (es : List (K × ℕ)) → g k ≡ true → find R k es ≡ None → keys_passing g (put R k v es) ≡ keys_passing g es + 1
  count-put_new g k v [] passes none = counted g (k, v) [] ∙ ap (λ b. cond b 1 0 + 0) passes
  count-put_new g k v (e ∷ es) passes none =
      elim (R k e.0) as (λ o. cond (is_eq o) (Some e.1) (find R k es) ≡ None → keys_passing g (by_order o ((k, v) ∷ e ∷ es) ((e.0, v) ∷ es) (e ∷ put R k v es)) ≡ keys_passing g (e ∷ es) + 1) [
        | Less ↦ λ n. counted g (k, v) (e ∷ es) ∙ ap (λ b. cond b 1 0 + keys_passing g (e ∷ es)) passes ∙ omega arith
        | Equal ↦ λ n. absurd (let never : ⊥ = cc in never)
        | Greater ↦ λ n. omega (arith, counted g e (put R k v es), count-put_new g k v es passes n, counted g e es)
      ] none

  -- a filter adds none
  pub count-filter : (g : K → Bool) (t : K × ℕ → Bool) (es : List (K × ℕ)) → keys_passing g (filter t es) ≤ keys_passing g es
  count-filter g t [] = omega arith
  count-filter g t (e ∷ es) =
      elim (t e) as (λ b. keys_passing g (cond b (e ∷ filter t es) (filter t es)) ≤ keys_passing g (e ∷ es)) [
        | true ↦ omega (arith, counted g e (filter t es), count-filter g t es, counted g e es)
        | false ↦ omega (arith, count-filter g t es, counted g e es)
      ]

  -- ---- whether a count passes

  pub any-put_yes : (p : ℕ → Bool) (k : K) (v : ℕ) (es : List (K × ℕ)) → p v ≡ true → any_count p (put R k v es) ≡ true
  any-put_yes p k v [] passes = or_left (p v) false passes
  any-put_yes p k v (e ∷ es) passes =
      elim (R k e.0) as (λ o. any_count p (by_order o ((k, v) ∷ e ∷ es) ((e.0, v) ∷ es) (e ∷ put R k v es)) ≡ true) [
        | Less ↦ or_left (p v) _ passes
        | Equal ↦ or_left (p v) _ passes
        | Greater ↦ or_right (p e.1) _ (any-put_yes p k v es passes)
      ]

  pub any-put_no : (p : ℕ → Bool) (k : K) (v : ℕ) (es : List (K × ℕ)) → p v ≡ false → any_count p es ≡ false → any_count p (put R k v es) ≡ false
  any-put_no p k v [] fails none = nor (p v) false fails refl
  any-put_no p k v (e ∷ es) fails none =
      let n = neither (p e.1) _ none in
      elim (R k e.0) as (λ o. any_count p (by_order o ((k, v) ∷ e ∷ es) ((e.0, v) ∷ es) (e ∷ put R k v es)) ≡ false) [
        | Less ↦ nor (p v) _ fails none
        | Equal ↦ nor (p v) _ fails n.1
        | Greater ↦ nor (p e.1) _ n.0 (any-put_no p k v es fails n.1)
      ]

  -- an entry that passes still does, where the new count passes if the old one did
  pub any-put_stays : (p : ℕ → Bool) (k : K) (v : ℕ) (es : List (K × ℕ)) → ((w : ℕ) → find R k es ≡ Some w → p w ≡ true → p v ≡ true)
      → any_count p es ≡ true → any_count p (put R k v es) ≡ true
  any-put_stays p k v [] stays some = absurd (let never : ⊥ = cc in never)
  any-put_stays p k v (e ∷ es) stays some =
      elim (R k e.0) as (λ o. ((w : ℕ) → cond (is_eq o) (Some e.1) (find R k es) ≡ Some w → p w ≡ true → p v ≡ true)
      → any_count p (by_order o ((k, v) ∷ e ∷ es) ((e.0, v) ∷ es) (e ∷ put R k v es)) ≡ true) [
        | Less ↦ λ s. or_right (p v) _ some
        | Equal ↦ λ s. one_or_other (p e.1) _ _ some (λ y. or_left (p v) _ (s e.1 refl y)) (λ y. or_right (p v) _ y)
        | Greater ↦ λ s. one_or_other (p e.1) _ _ some (λ y. or_left (p e.1) _ y) (λ y. or_right (p e.1) _ (any-put_stays p k v es s y))
      ] stays

  pub any-filter : (p : ℕ → Bool) (t : K × ℕ → Bool) (es : List (K × ℕ)) → any_count p es ≡ false → any_count p (filter t es) ≡ false
  any-filter p t [] none = refl
  any-filter p t (e ∷ es) none =
      let n = neither (p e.1) _ none in
      elim (t e) as (λ b. any_count p (cond b (e ∷ filter t es) (filter t es)) ≡ false) [
        | true ↦ nor (p e.1) _ n.0 (any-filter p t es n.1)
        | false ↦ any-filter p t es n.1
      ]

  -- what is found doesn't pass where none does
  pub found_no : (p : ℕ → Bool) (k : K) (w : ℕ) (es : List (K × ℕ)) → any_count p es ≡ false → find R k es ≡ Some w → p w ≡ false
  found_no p k w [] none f = absurd (let never : ⊥ = cc in never)
  found_no p k w (e ∷ es) none f =
      let n = neither (p e.1) _ none in
      elim (eq_by_cmp R k e.0) as (λ b. cond b (Some e.1) (find R k es) ≡ Some w → p w ≡ false) [
        | true ↦ λ g. let same : e.1 ≡ w = cc in ap p (sym same) ∙ n.0
        | false ↦ λ g. found_no p k w es n.1 g
      ] f

  -- a key that isn't found is not there to be filtered out
  pub filter_absent : (k : K) (es : List (K × ℕ)) → find R k es ≡ None → others k es ≡ es
  filter_absent k [] none = refl
  filter_absent k (e ∷ es) none =
      elim (eq_by_cmp R k e.0) as (λ b. cond b (Some e.1) (find R k es) ≡ None → cond (not b) (e ∷ others k es) (others k es) ≡ e ∷ es) [
        | true ↦ λ n. absurd (let never : ⊥ = cc in never)
        | false ↦ λ n. ap (λ l. e ∷ l) (filter_absent k es n)
      ] none

  -- ---- in order

  module _ (o : IsTotalOrder R) where
    -- a key before all of a list isn't found in it
    pub find_before : (k : K) (es : List (K × ℕ)) → T (below_all R k es) → find R k es ≡ None
    find_before k [] h = refl
    find_before k (e ∷ es) h = ap (λ r. cond (is_eq r) (Some e.1) (find R k es)) (is_less _ (first _ _ h)) ∙ find_before k es (second _ _ h)

    pub before_less : (x y : K) (es : List (K × ℕ)) → R x y ≡ Less → T (below_all R y es) → T (below_all R x es)
    before_less x y [] p h = tt
    before_less x y (e ∷ es) p h = both _ _ (subst (λ r. T (is_lt r)) (sym (o.trans x y e.0 p (is_less _ (first _ _ h)))) tt) (before_less x y es p (second _ _ h))

    pub before_tied : (x y : K) (es : List (K × ℕ)) → R x y ≡ Equal → T (below_all R y es) → T (below_all R x es)
    before_tied x y [] p h = tt
    before_tied x y (e ∷ es) p h = both _ _ (subst (λ r. T (is_lt r)) (sym (o.congr x y e.0 p)) (first _ _ h)) (before_tied x y es p (second _ _ h))

    -- a key that is there is no new one
    pub count-put_found : (g : K → Bool) (k : K) (v w : ℕ) (es : List (K × ℕ)) → T (is_sorted R es) → find R k es ≡ Some w → keys_passing g (put R k v es) ≡ keys_passing g es
    count-put_found g k v w [] h f = absurd (let never : ⊥ = cc in never)
    count-put_found g k v w (e ∷ es) h f =
        elim (R k e.0) as (λ r. R k e.0 ≡ r → cond (is_eq r) (Some e.1) (find R k es) ≡ Some w
        → keys_passing g (by_order r ((k, v) ∷ e ∷ es) ((e.0, v) ∷ es) (e ∷ put R k v es)) ≡ keys_passing g (e ∷ es)) [
          | Less ↦ λ p f'. absurd (let none = find_before k es (before_less k e.0 es p (first _ _ h)) in let never : ⊥ = cc in never)
          | Equal ↦ λ p f'. counted g (e.0, v) es ∙ sym (counted g e es)
          | Greater ↦ λ p f'. counted g e (put R k v es) ∙ ap (λ n. cond (g e.0) 1 0 + n) (count-put_found g k v w es (second _ _ h) f') ∙ sym (counted g e es)
        ] refl f
