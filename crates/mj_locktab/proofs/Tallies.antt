-- The tallies of one job alone.
use Rattle.std.proofs.Common.{◌≡◌, ℕ, ◌+◌, ◌-◌, ◌<◌, ◌≤◌, Bool, true, false, cond, not, ◌&&◌, [], ◌∷◌, Option, Some, None, refl, sym, ap, ◌∙◌, arith, eq-eqb}
use Rattle.std.specs.Prelude.{◌==◌, nat_lt, unwrap_or}
use Rattle.std.specs.Ordering.{nat_cmp}
use Rattle.std.specs.List.Sorted.{IsStrictlySortedBy}
use Rattle.std.specs.BTreeMap.{is_at}
use Rattle.mj_locktab.specs.Trees.{Tallies, tally, AreCounted, NoOther, IsLeastOther}
use Rattle.mj_locktab.proofs.InWay.{equal_job, tally-cons, all_left, one_passed, one_found, none_found, why_passed, why_found}

abbrev alone : ℕ → ℕ → Tallies
alone own count = (own, count) ∷ []

pub tally_alone : (own count j : ℕ) → tally ((own, count) ∷ []) j ≡ cond (j == own) count 0
tally_alone own count j = tally-cons (own, count) [] j

-- its own tally
pub own_tally : (own count : ℕ) → tally ((own, count) ∷ []) own ≡ count
own_tally own count = tally_alone own count own ∙ ap (λ b. cond b count 0) (eq-eqb own own refl)

-- one name more of it, where it had some and where it had none
pub raised_alone : (own count j : ℕ) → tally ((own, count + 1) ∷ []) j ≡ tally ((own, count) ∷ []) j + cond (j == own) 1 0
raised_alone own count j = tally_alone own (count + 1) j ∙ at (j == own) ∙ ap (λ n. n + cond (j == own) 1 0) (sym (tally_alone own count j)) where
  at : (b : Bool) → cond b (count + 1) 0 ≡ cond b count 0 + cond b 1 0
  at true = refl
  at false = refl

pub raised_none : (own j : ℕ) → tally ((own, 1) ∷ []) j ≡ tally [] j + cond (j == own) 1 0
raised_none own j = let is = tally_alone own 1 j in omega (arith, is)

-- one name less of it
pub lowered_alone : (own count j : ℕ) → tally ((own, count - 1) ∷ []) j ≡ tally ((own, count) ∷ []) j - cond (j == own) 1 0
lowered_alone own count j = tally_alone own (count - 1) j ∙ at (j == own) ∙ ap (λ n. n - cond (j == own) 1 0) (sym (tally_alone own count j)) where
  at : (b : Bool) → cond b (count - 1) 0 ≡ cond b count 0 - cond b 1 0
  at true = refl
  at false = omega arith

-- its last name less
pub lowered_last : (own count j : ℕ) → count ≤ 1 → tally [] j ≡ tally ((own, count) ∷ []) j - cond (j == own) 1 0
lowered_last own count j few = sym (ap (λ n. n - cond (j == own) 1 0) (tally_alone own count j) ∙ at (j == own)) where
  at : (b : Bool) → cond b count 0 - cond b 1 0 ≡ 0
  at true = omega (arith, few)
  at false = omega arith

-- one name less of another job
pub lowered_other : (own count job j : ℕ) → (own == job) ≡ false → tally ((own, count) ∷ []) j ≡ tally ((own, count) ∷ []) j - cond (j == job) 1 0
lowered_other own count job j other = tally_alone own count j ∙ at (j == own) (j == job) refl refl ∙ ap (λ n. n - cond (j == job) 1 0) (sym (tally_alone own count j)) where
  at : (b d : Bool) → (j == own) ≡ b → (j == job) ≡ d → cond b count 0 ≡ cond b count 0 - cond d 1 0
  at true true e f =
      let here : j ≡ own = equal_job j own e in
      let there : j ≡ job = equal_job j job f in
      let same : (own == job) ≡ true = eq-eqb own job (sym here ∙ there) in
      absurd (let never : ⊥ = cc in never)
  at true false e f = omega arith
  at false d e f = omega arith

-- it has a name
pub counted_alone : (own count : ℕ) → 0 < count → AreCounted ((own, count) ∷ [])
counted_alone own count up job found = at (is_at (nat_cmp job) own) found where
  at : (b : Bool) → cond b (Some count) None ≡ Some 0 → ⊥
  at true e = let none : count ≡ 0 = ap (λ (o : Option ℕ). unwrap_or o 0) e in omega (arith, none, up)
  at false e = cc

pub counted_nowhere : AreCounted []
counted_nowhere job found = cc

-- whether it is another job that has a name
pub no_other_alone : (own count job : ℕ) → (not (own == job) && nat_lt 0 count) ≡ false → NoOther (λ j. nat_lt 0 (tally ((own, count) ∷ []) j)) job
unfolding IsStrictlySortedBy
no_other_alone own count job e =
    none_found (alone own count) [] job
    (one_passed (alone own count) (alone own count) [] job own count (all_left (alone own count) job (tt, tt)) refl (why_passed own job count e)) refl

pub other_alone : (own count job : ℕ) → (not (own == job) && nat_lt 0 count) ≡ true → IsLeastOther (λ j. nat_lt 0 (tally ((own, count) ∷ []) j)) job own
unfolding IsStrictlySortedBy
other_alone own count job e =
    let why = why_found own job count e in
    one_found (alone own count) (alone own count) [] job own count (all_left (alone own count) job (tt, tt)) refl why.0 why.1
