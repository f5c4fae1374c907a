-- Steps in turn, one behind the other.
use Rattle.std.proofs.Common.{◌≡◌, ℕ, suc, ◌+◌, ◌<◌, ◌==◌, Bool, true, false, Option, Some, None, refl, subst, inl, inr, arith}
use Rattle.std.specs.Prelude.{IfNone, IfSome}
use Rattle.mj_sys.specs.Shared.{Shared}
use Rattle.mj_guide.specs.declared.request.Goal.{Goal}
use Rattle.mj_guide.specs.Goes.{ArePassed, EndsAt, GoesOn, GoesPast}
use Rattle.mj_guide.specs.Notes.{Situation}

-- one step more was made
pub one_more : (opening : Shared) (goal : Option Goal) (made : ℕ) (old mid new : Situation) (before waited : ℕ) → ArePassed opening goal made old mid before
    → GoesPast opening goal (made == 0) mid before new waited → ArePassed opening goal (made + 1) old new waited
one_more opening goal made old mid new before waited are past =
    let next : suc made ≡ made + 1 = omega arith in
    subst (λ (n : ℕ). ArePassed opening goal n old new waited) next (mid, before, are, past)

-- all were made
pub all_made : (opening : Shared) (goal : Option Goal) (made count : ℕ) (old new : Situation) (waited : ℕ) → ArePassed opening goal made old new waited → made ≡ count
    → GoesOn opening goal count old false new
all_made opening goal made count old new waited are all = inl (made, waited, all, are, refl)

-- one is the last
pub one_ends : (opening : Shared) (goal : Option Goal) (made count : ℕ) (old mid new : Situation) (waited : ℕ) (full : Bool) → ArePassed opening goal made old mid waited
    → made < count → EndsAt opening goal (made == 0) mid waited full new → GoesOn opening goal count old full new
one_ends opening goal made count old mid new waited full are fewer ends = inr (made, mid, waited, fewer, are, ends)

-- what holds where none is told as the last
pub goes_on : (o : Option Bool) (P : Type 0) → o ≡ None → IfNone o P → P
goes_on o P is so = subst (λ (o : Option Bool). IfNone o P) is so

-- and where one is
pub goes_no_more : (o : Option Bool) (full : Bool) (P : Bool → Type 0) → o ≡ Some full → IfSome o P → P full
goes_no_more o full P is so = subst (λ (o : Option Bool). IfSome o P) is so
