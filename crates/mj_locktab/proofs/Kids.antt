-- Trees by their keys, of which one is written over, put there or taken away: what stands in them changes as it does in that one.
use Rattle.std.proofs.Common.{◌≡◌, ℕ, ◌+◌, ◌-◌, Bool, true, false, cond, ◌&&◌, List, Option, Some, None, refl, sym, ap, ◌∙◌, arith}
use Rattle.std.specs.Prelude.{◌==◌}
use Rattle.std.specs.declared.cmp.Ordering.{Ordering}
use Rattle.std.specs.Ordering.{eq_by_cmp}
use Rattle.std.specs.Cmp.{IsTotalOrder}
use Rattle.std.specs.Map.{lookup}
use Rattle.std.specs.BTreeMap.{is_at}
use Rattle.std.specs.Str.{bytes_eq}
use Rattle.std.specs.Cmp.Lexicographic.{bytes_decides}
use Rattle.std.proofs.lemmas.Cmp.{eq_by_cmp_equiv}
use Rattle.mj_locktab.specs.Trees.{Stand, Stands, Kids, stand_in, kid_at, holder_of, tally_of, AreAlike, HasOneMore, HasOneLess, IsWritten}

-- an order in which only equal keys tie
module _ (R : List ℕ → List ℕ → Ordering) (o : IsTotalOrder R) (ties : (s t : List ℕ) → bytes_eq s t ≡ eq_by_cmp R s t) where
  at_same : (s t : List ℕ) → is_at (R s) t ≡ bytes_eq t s
  at_same s t = (eq_by_cmp_equiv o).symm s t ∙ sym (ties t s)

  in_cond : (b : Bool) (x y : Option Stands) (p : List (List ℕ)) → stand_in (cond b x y) p ≡ cond b (stand_in x p) (stand_in y p)
  in_cond true x y p = refl
  in_cond false x y p = refl

  -- one write after another to the same key
  pub written_twice : (ks one two : Kids) (s : List ℕ) (x y : Option Stands) → IsWritten R ks one s x → IsWritten R one two s y → IsWritten R ks two s y
  written_twice ks one two s x y w v = λ q. v q ∙ ap (λ (l : Option Stands). cond (is_at (R s) q) y l) (w q) ∙ over (is_at (R s) q) (lookup (is_at (R q)) ks) where
    over : (b : Bool) (l : Option Stands) → cond b y (cond b x l) ≡ cond b y l
    over true l = refl
    over false l = refl

  -- what isn't there is as if it were taken away
  pub written_none : (ks : Kids) (s : List ℕ) → lookup (is_at (R s)) ks ≡ None → IsWritten R ks ks s None
  written_none ks s none = λ q. at q (bytes_eq q s) refl ∙ ap (λ b. cond b None (lookup (is_at (R q)) ks)) (sym (at_same s q)) where
    at : (q : List ℕ) (b : Bool) → bytes_eq q s ≡ b → lookup (is_at (R q)) ks ≡ cond b None (lookup (is_at (R q)) ks)
    at q true e = ap (λ (x : List ℕ). lookup (is_at (R x)) ks) ((bytes_decides q s).0 e) ∙ none
    at q false e = refl

  module _ (ks new : Kids) (s : List ℕ) (before after : Option Stands) (there : lookup (is_at (R s)) ks ≡ before) (written : IsWritten R ks new s after) where
    kid_before : (t : List ℕ) (p : List (List ℕ)) → bytes_eq t s ≡ true → kid_at R ks t p ≡ stand_in before p
    kid_before t p e = ap (λ (x : List ℕ). kid_at R ks x p) ((bytes_decides t s).0 e) ∙ ap (λ (l : Option Stands). stand_in l p) there

    kid_after : (t : List ℕ) (p : List (List ℕ)) → kid_at R new t p ≡ cond (bytes_eq t s) (stand_in after p) (kid_at R ks t p)
    kid_after t p =
        ap (λ (l : Option Stands). stand_in l p) (written t)
        ∙ in_cond (is_at (R s) t) after (lookup (is_at (R t)) ks) p
        ∙ ap (λ b. cond b (stand_in after p) (kid_at R ks t p)) (at_same s t)

    -- the job holds one name more there
    module _ (place within : List (List ℕ) → Bool) (job : ℕ) (more : HasOneMore (stand_in before) (stand_in after) place within job) where
      more_holder : (t : List ℕ) (p : List (List ℕ)) (b : Bool) → bytes_eq t s ≡ b
          → holder_of (cond b (stand_in after p) (kid_at R ks t p)) ≡ cond (b && place p) (Some job) (holder_of (kid_at R ks t p))
      more_holder t p true e = more.holders p ∙ ap (λ (x : Option Stand). cond (place p) (Some job) (holder_of x)) (sym (kid_before t p e))
      more_holder t p false e = refl

      more_tally : (t : List ℕ) (p : List (List ℕ)) (j : ℕ) (b : Bool) → bytes_eq t s ≡ b
          → tally_of (cond b (stand_in after p) (kid_at R ks t p)) j ≡ tally_of (kid_at R ks t p) j + cond ((b && within p) && j == job) 1 0
      more_tally t p j true e = more.tallies p j ∙ ap (λ (x : Option Stand). tally_of x j + cond (within p && j == job) 1 0) (sym (kid_before t p e))
      more_tally t p j false e = omega arith

      pub more_kid : HasOneMore (λ (q : List ℕ × List (List ℕ)). kid_at R ks q.0 q.1) (λ q. kid_at R new q.0 q.1) (λ q. bytes_eq q.0 s && place q.1) (λ q. bytes_eq q.0 s && within q.1) job
      more_kid = record {
        holders = λ q. ap (λ (x : Option Stand). holder_of x) (kid_after q.0 q.1) ∙ more_holder q.0 q.1 (bytes_eq q.0 s) refl;
        tallies = λ q j. ap (λ (x : Option Stand). tally_of x j) (kid_after q.0 q.1) ∙ more_tally q.0 q.1 j (bytes_eq q.0 s) refl;
      }

    -- it holds one name less there
    module _ (place within : List (List ℕ) → Bool) (job : ℕ) (less : HasOneLess (stand_in before) (stand_in after) place within job) where
      less_holder : (t : List ℕ) (p : List (List ℕ)) (b : Bool) → bytes_eq t s ≡ b → holder_of (cond b (stand_in after p) (kid_at R ks t p)) ≡ cond (b && place p) None (holder_of (kid_at R ks t p))
      less_holder t p true e = less.holders p ∙ ap (λ (x : Option Stand). cond (place p) None (holder_of x)) (sym (kid_before t p e))
      less_holder t p false e = refl

      less_tally : (t : List ℕ) (p : List (List ℕ)) (j : ℕ) (b : Bool) → bytes_eq t s ≡ b
          → tally_of (cond b (stand_in after p) (kid_at R ks t p)) j ≡ tally_of (kid_at R ks t p) j - cond ((b && within p) && j == job) 1 0
      less_tally t p j true e = less.tallies p j ∙ ap (λ (x : Option Stand). tally_of x j - cond (within p && j == job) 1 0) (sym (kid_before t p e))
      less_tally t p j false e = omega arith

      pub less_kid : HasOneLess (λ (q : List ℕ × List (List ℕ)). kid_at R ks q.0 q.1) (λ q. kid_at R new q.0 q.1) (λ q. bytes_eq q.0 s && place q.1) (λ q. bytes_eq q.0 s && within q.1) job
      less_kid = record {
        holders = λ q. ap (λ (x : Option Stand). holder_of x) (kid_after q.0 q.1) ∙ less_holder q.0 q.1 (bytes_eq q.0 s) refl;
        tallies = λ q j. ap (λ (x : Option Stand). tally_of x j) (kid_after q.0 q.1) ∙ less_tally q.0 q.1 j (bytes_eq q.0 s) refl;
      }

    -- nothing that is told changes there
    module _ (alike : AreAlike (stand_in before) (stand_in after)) where
      alike_holder : (t : List ℕ) (p : List (List ℕ)) (b : Bool) → bytes_eq t s ≡ b → holder_of (cond b (stand_in after p) (kid_at R ks t p)) ≡ holder_of (kid_at R ks t p)
      alike_holder t p true e = alike.holders p ∙ ap (λ (x : Option Stand). holder_of x) (sym (kid_before t p e))
      alike_holder t p false e = refl

      alike_tally : (t : List ℕ) (p : List (List ℕ)) (j : ℕ) (b : Bool) → bytes_eq t s ≡ b → tally_of (cond b (stand_in after p) (kid_at R ks t p)) j ≡ tally_of (kid_at R ks t p) j
      alike_tally t p j true e = alike.tallies p j ∙ ap (λ (x : Option Stand). tally_of x j) (sym (kid_before t p e))
      alike_tally t p j false e = refl

      pub alike_kid : AreAlike (λ (q : List ℕ × List (List ℕ)). kid_at R ks q.0 q.1) (λ q. kid_at R new q.0 q.1)
      alike_kid = record {
        holders = λ q. ap (λ (x : Option Stand). holder_of x) (kid_after q.0 q.1) ∙ alike_holder q.0 q.1 (bytes_eq q.0 s) refl;
        tallies = λ q j. ap (λ (x : Option Stand). tally_of x j) (kid_after q.0 q.1) ∙ alike_tally q.0 q.1 j (bytes_eq q.0 s) refl;
      }

-- ---- a child of which no name is held, and one that isn't there

module _ (place within : List (List ℕ) → Bool) (job : ℕ) where
  -- a bare one may be taken away
  pub less_bare : (before : Option Stands) (child : Stands) → AreAlike (λ p. None) (stand_in (Some child)) → HasOneLess (stand_in before) (stand_in (Some child)) place within job
      → HasOneLess (stand_in before) (stand_in None) place within job
  less_bare before child bare less = record {
    holders = λ p. sym (bare.holders p) ∙ less.holders p;
    tallies = λ p j. sym (bare.tallies p j) ∙ less.tallies p j;
  }

  -- of none there is nothing to take
  pub less_none : HasOneLess (stand_in None) (stand_in None) place within job
  less_none = record { holders = λ p. none (place p) None; tallies = λ p j. omega arith } where
    none : (b : Bool) (x : Option ℕ) → x ≡ cond b x x
    none true x = refl
    none false x = refl

-- what is told alike at first has one more then, too
pub more_after_alike : {P : Type 0} (f g h : P → Option Stand) (place within : P → Bool) (job : ℕ) → AreAlike f g → HasOneMore g h place within job → HasOneMore f h place within job
more_after_alike f g h place within job alike more = record {
  holders = λ p. more.holders p ∙ ap (λ (o : Option ℕ). cond (place p) (Some job) o) (alike.holders p);
  tallies = λ p j. more.tallies p j ∙ ap (λ (x : ℕ). x + cond (within p && j == job) 1 0) (alike.tallies p j);
}
