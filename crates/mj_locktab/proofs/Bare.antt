-- What is told of a node that is bare, and that no node keeps one below it.
use Rattle.std.proofs.Common.{◌≡◌, ℕ, ◌+◌, Bool, true, false, cond, not, ◌&&◌, List, [], ◌∷◌, length, Option, Some, None, refl, sym, ap, ◌∙◌, subst, arith, eq-eqb}
use Rattle.std.specs.Prelude.{◌==◌, is_some, unwrap_or}
use Rattle.std.specs.declared.cmp.Ordering.{Ordering}
use Rattle.std.specs.Ordering.{nat_cmp}
use Rattle.std.specs.Map.{lookup}
use Rattle.std.specs.BTreeMap.{is_at}
use Rattle.std.proofs.lemmas.Cmp.{eq_by_cmp_equiv, nat_cmp_total}
use Rattle.mj_subs.specs.Collation.{subscript_cmp}
use Rattle.mj_subs.specs.Laws.Total.{subscript_cmp_total}
use Rattle.mj_locktab.specs.Trees.{Tallies, Stand, Stands, Kids, below, stand_at, stand_in, tally, holder_of, tally_of, AreAlike, IsBare, NoneBare, AreCounted, HasOneMore, IsWritten}
use Rattle.mj_locktab.proofs.Nodes.{AreRising, stand-below, bare_with, no_entries}

-- ---- what isn't bare

abbrev raised : Bool → ℕ
raised b = cond b 1 0

-- a node that has a name more
pub more_told : (child : Stands) (before : List (List ℕ) → Option Stand) (place within : List (List ℕ) → Bool) (job : ℕ) → within [] ≡ true
    → HasOneMore before (stand_at child) place within job → IsBare child → ⊥
more_told child before place within job inside more bare =
    let here : tally_of (stand_at child []) job ≡ tally_of (before []) job + raised (within [] && job == job) = more.tallies [] job in
    let one : raised (within [] && job == job) ≡ 1 = ap (λ b. raised (b && job == job)) inside ∙ ap raised (eq-eqb job job refl) in
    let none : tally_of (stand_at child []) job ≡ 0 = bare.tallies [] job in
    absurd (omega (arith, here, one, none))

-- a node that tells what one does that isn't bare
pub alike_bare : (old new : Stands) → AreAlike (stand_at old) (stand_at new) → IsBare new → IsBare old
alike_bare old new alike bare = record { holders = λ p. sym (alike.holders p) ∙ bare.holders p; tallies = λ p j. sym (alike.tallies p j) ∙ bare.tallies p j }

pub told_false : (b : Bool) → b ≡ false → b ≡ true → ⊥
told_false b off on = let never : ⊥ = cc in never

-- ---- trees of which one is written over, put there or taken away

still_told : (b : Bool) (after l : Option Stands) (child : Stands) → ((c : Stands) → after ≡ Some c → IsBare c → ⊥) → ((c : Stands) → l ≡ Some c → IsBare c → ⊥) → cond b after l ≡ Some child
    → IsBare child → ⊥
still_told true after l child told kept e bare = told child e bare
still_told false after l child told kept e bare = kept child e bare

pub none_bare_written : (R : List ℕ → List ℕ → Ordering) (ks new : Kids) (s : List ℕ) (after : Option Stands) → NoneBare R ks → IsWritten R ks new s after
    → ((c : Stands) → after ≡ Some c → IsBare c → ⊥) → NoneBare R new
none_bare_written R ks new s after kept written told = λ q child found bare.
    still_told (is_at (R s) q) after (lookup (is_at (R q)) ks) child told (kept q) (sym (written q) ∙ found) bare

-- a tree that isn't bare is put there, or one is taken away
pub one_told : (x : Stands) → (IsBare x → ⊥) → (c : Stands) → Some x ≡ Some c → IsBare c → ⊥
one_told x told c e bare = told (subst IsBare (sym (ap (λ (o : Option Stands). unwrap_or o x) e)) bare)

none_told : (c : Stands) → None ≡ Some c → IsBare c → ⊥
none_told c e bare = cc

pub none_in_none : (R : List ℕ → List ℕ → Ordering) (ks : Kids) → ks ≡ [] → NoneBare R ks
none_in_none R ks empty = subst (NoneBare R) (sym empty) (λ q child found bare. none_told child found bare)

-- ---- a bare node keeps nothing

pub none_there : (o : Option ℕ) (b : Bool) → is_some o ≡ not b → b ≡ true → o ≡ None
none_there None b e t = refl
none_there (Some n) true e t = absurd (let never : ⊥ = cc in never)
none_there (Some n) false e t = absurd (let never : ⊥ = cc in never)

pub one_there : (o : Option ℕ) (b : Bool) → is_some o ≡ not b → b ≡ false → o ≡ None → ⊥
one_there None true e f n = cc
one_there None false e f n = cc
one_there (Some m) b e f n = cc

tallies_none : (ts : Tallies) → AreCounted ts → ((j : ℕ) → tally ts j ≡ 0) → ts ≡ []
tallies_none [] counted none = refl
tallies_none (e ∷ es) counted none = absurd (counted e.0 (first ∙ ap (λ (n : ℕ). Some n) (sym (ap (λ (o : Option ℕ). unwrap_or o 0) first) ∙ none e.0))) where
  first : lookup (is_at (nat_cmp e.0)) (e ∷ es) ≡ Some e.1
  first = ap (λ b. cond b (Some e.1) (lookup (is_at (nat_cmp e.0)) es)) ((eq_by_cmp_equiv nat_cmp_total).refl e.0)

kids_none : (ks : Kids) → NoneBare subscript_cmp ks → ((s : List ℕ) (child : Stands) → lookup (is_at (subscript_cmp s)) ks ≡ Some child → IsBare child) → ks ≡ []
kids_none [] kept bare = refl
kids_none (e ∷ es) kept bare = absurd (kept e.0 e.1 first (bare e.0 e.1 first)) where
  first : lookup (is_at (subscript_cmp e.0)) (e ∷ es) ≡ Some e.1
  first = ap (λ b. cond b (Some e.1) (lookup (is_at (subscript_cmp e.0)) es)) ((eq_by_cmp_equiv subscript_cmp_total).refl e.0)

module _ (own : Stand) (ks : Kids) (v : Stands) (seen : (([], own) ∷ below ks) ≡ v) where
  -- what keeps nothing is bare
  pub is_bare_if : own.0 ≡ None → length own.1 ≡ 0 → length ks ≡ 0 → IsBare v
  is_bare_if holder tallies kids =
      subst IsBare (ap (λ (o : Option ℕ). ([], (o, own.1)) ∷ below ks) (sym holder) ∙ seen) (bare_with own.1 ks (no_entries own.1 tallies) (no_entries ks kids))

  -- and what is bare keeps nothing
  pub bare_holder : IsBare v → own.0 ≡ None
  bare_holder bare = (subst IsBare (sym seen) bare).holders []

  pub bare_tallies : AreCounted own.1 → IsBare v → length own.1 ≡ 0
  bare_tallies counted bare = ap (λ (ts : Tallies). length ts) (tallies_none own.1 counted (λ j. (subst IsBare (sym seen) bare).tallies [] j))

  pub bare_kids : AreRising ks → NoneBare subscript_cmp ks → IsBare v → length ks ≡ 0
  bare_kids rises kept bare = ap (λ (es : Kids). length es) (kids_none ks kept under) where
    place : (s : List ℕ) (child : Stands) (p : List (List ℕ)) → lookup (is_at (subscript_cmp s)) ks ≡ Some child → stand_at child p ≡ stand_at (([], own) ∷ below ks) (s ∷ p)
    place s child p found = ap (λ (o : Option Stands). stand_in o p) (sym found) ∙ sym (stand-below ks s p rises)

    under : (s : List ℕ) (child : Stands) → lookup (is_at (subscript_cmp s)) ks ≡ Some child → IsBare child
    under s child found = record {
      holders = λ p. ap (λ (o : Option Stand). holder_of o) (place s child p found) ∙ (subst IsBare (sym seen) bare).holders (s ∷ p);
      tallies = λ p j. ap (λ (o : Option Stand). tally_of o j) (place s child p found) ∙ (subst IsBare (sym seen) bare).tallies (s ∷ p) j;
    }
