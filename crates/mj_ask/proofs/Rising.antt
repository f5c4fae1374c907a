-- Lists of entries that rise, by neighbours.
use Rattle.std.proofs.Common.{◌≡◌, ℕ, Bool, true, false, ◌&&◌, List, [], ◌∷◌, refl, sym, ap, subst}
use Rattle.std.specs.Prelude.{T}
use Rattle.std.specs.declared.cmp.Ordering.{Ordering}
use Rattle.std.specs.declared.cmp.Ordering.TheVariants.{Less, Equal, Greater}
use Rattle.std.specs.Ordering.{is_lt}
use Rattle.std.specs.Cmp.{IsTotalOrder}
use Rattle.std.specs.FinMap.{is_sorted}
use Rattle.std.specs.FinMap.Entries.{below_all}
use Rattle.mj_subs.specs.Collation.{subscripts_cmp}
use Rattle.mj_ask.specs.Formed.{starts_after}
use Rattle.mj_subs.specs.Laws.Total.{subscripts_cmp_total}

is_true : (b : Bool) → T b → b ≡ true
is_true true p = refl
is_true false p = absurd p

-- what is below all of a list that is below all of another is needed no more
without : (a b c : Bool) → (T b → T a) → ((true && a) && (b && c)) ≡ (b && c)
without a true c f = ap (λ (x : Bool). x && c) (is_true a (f tt))
without true false c f = refl
without false false c f = refl

stopped : (a b : Bool) → ((false && a) && b) ≡ false
stopped a b = refl

less : (r : Ordering) → T (is_lt r) → r ≡ Less
less Less p = refl
less Equal p = absurd p
less Greater p = absurd p

first_so : (a b : Bool) → T (a && b) → T a
first_so true b p = tt
first_so false b p = p

second_so : (a b : Bool) → T (a && b) → T b
second_so true b p = p
second_so false b p = absurd p

both_so : (a b : Bool) → T a → T b → T (a && b)
both_so true b p q = q
both_so false b p q = p

module _ {K X : Type 0} (R : K → K → Ordering) (o : IsTotalOrder R) where
  below_less : (x y : K) (es : List (K × X)) → R x y ≡ Less → T (below_all R y es) → T (below_all R x es)
  below_less x y [] p h = tt
  below_less x y (e ∷ es) p h =
      both_so (is_lt (R x e.0)) (below_all R x es) (subst (λ r. T (is_lt r)) (sym (o.trans x y e.0 p (less (R y e.0) (first_so (is_lt (R y e.0)) (below_all R y es) h)))) tt)
      (below_less x y es p (second_so (is_lt (R y e.0)) (below_all R y es) h))

  step : (e f : K × X) (es : List (K × X)) → is_sorted R (e ∷ f ∷ es) ≡ (is_lt (R e.0 f.0) && is_sorted R (f ∷ es))
  step e f es =
      elim (R e.0 f.0) as (λ r. R e.0 f.0 ≡ r → ((is_lt r && below_all R e.0 es) && is_sorted R (f ∷ es)) ≡ (is_lt r && is_sorted R (f ∷ es))) [
        | Less ↦ λ p. without (below_all R e.0 es) (below_all R f.0 es) (is_sorted R es) (below_less e.0 f.0 es p)
        | Equal ↦ λ p. refl
        | Greater ↦ λ p. refl
      ] refl

-- nodes rise where the first starts before the rest, and the rest rises
pub rise_step : (e : List (List ℕ) × List ℕ) (es : List (List (List ℕ) × List ℕ)) → is_sorted subscripts_cmp (e ∷ es) ≡ (starts_after e.0 es && is_sorted subscripts_cmp es)
rise_step e [] = refl
rise_step e (f ∷ es) = step subscripts_cmp subscripts_cmp_total e f es
