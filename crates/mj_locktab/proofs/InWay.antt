-- Which jobs are in the way of a list of subscripts, and the least other one of them.
use Rattle.std.proofs.Common.{◌≡◌, ℕ, zero, suc, ◌<◌, ◌≤◌, min, Bool, true, false, cond, not, ◌&&◌, ◌||◌, List, [], ◌∷◌, Option, Some, None, ◌⊎◌, inl, inr, refl, sym, ap, ◌∙◌, subst, arith, eq-eqb, eqb→eq}
use Rattle.std.specs.Prelude.{◌==◌, T, nat_lt, unwrap_or, MatchOption}
use Rattle.std.specs.List.{AllByRecursion}
use Rattle.std.specs.List.Sorted.{IsStrictlySortedBy}
use Rattle.std.specs.declared.cmp.Ordering.TheVariants.{Less}
use Rattle.std.specs.Ordering.{nat_cmp}
use Rattle.std.specs.Cmp.{unsigned_tied}
use Rattle.std.specs.Map.{keys_of, lookup}
use Rattle.std.specs.BTreeMap.{is_at}
use Rattle.std.proofs.lemmas.Cmp.{nat_cmp_total, eq_by_cmp_equiv, ranked}
use Rattle.std.proofs.lemmas.Map.{lookup-none}
use Rattle.std.proofs.lemmas.Map.Keys.{sorted_head, sorted_tail, IsDistinct-from_sorted}
use Rattle.std.proofs.lemmas.Map.Entries.{none_past_head}
use Rattle.mj_locktab.specs.Trees.{Tallies, Stand, Stands, stand_at, tally, is_job, is_in_way, lesser, NoOther, IsLeastOther}
use Rattle.mj_locktab.proofs.Entries.{or_left, or_right, nor, one_or_other}
use Rattle.mj_locktab.proofs.Limits.{lt_true, from_lt_true, from_lt_false}

pub equal_job : (j k : ℕ) → (j == k) ≡ true → j ≡ k
equal_job j k e = eqb→eq j k (subst T (sym e) tt)

unlike : (j k : ℕ) → (j ≡ k → ⊥) → (j == k) ≡ false
unlike j k other = at (j == k) refl where
  at : (b : Bool) → (j == k) ≡ b → b ≡ false
  at true e = absurd (other (equal_job j k e))
  at false e = refl

-- ---- the least other job among tallies

abbrev pub passing : Tallies → ℕ → Bool
passing tallies j = nat_lt 0 (tally tallies j)

-- of the tallies that are left the same is told of each other job as of all
pub record IsLeft (all left : Tallies) (job : ℕ) : Type 0 where
  pub rises : IsStrictlySortedBy nat_cmp (keys_of left)
  pub same : (j : ℕ) → (j ≡ job → ⊥) → passing all j ≡ passing left j

pub all_left : (all : Tallies) (job : ℕ) → IsStrictlySortedBy nat_cmp (keys_of all) → IsLeft all all job
all_left all job rises = record { rises = rises; same = λ j other. refl }

pub tally-cons : (e : ℕ × ℕ) (es : Tallies) (j : ℕ) → tally (e ∷ es) j ≡ cond (j == e.0) e.1 (tally es j)
tally-cons e es j = ap (λ b. unwrap_or (cond b (Some e.1) (lookup (is_at (nat_cmp j)) es)) 0) (unsigned_tied j e.0) ∙ at (j == e.0) where
  at : (b : Bool) → unwrap_or (cond b (Some e.1) (lookup (is_at (nat_cmp j)) es)) 0 ≡ cond b e.1 (tally es j)
  at true = refl
  at false = refl

tally_past : (e : ℕ × ℕ) (es : Tallies) → IsStrictlySortedBy nat_cmp (keys_of (e ∷ es)) → (j : ℕ) → (j == e.0) ≡ true → tally es j ≡ 0
tally_past e es rises j same =
    ap (λ (o : Option ℕ). unwrap_or o 0)
    (lookup-none (is_at (nat_cmp j)) es
    (none_past_head (eq_by_cmp_equiv nat_cmp_total) j e es (IsDistinct-from_sorted nat_cmp (keys_of (e ∷ es)) rises) (unsigned_tied j e.0 ∙ same)))

-- the first that is left is of this job, or has no name
pub one_passed : (all left rest : Tallies) (job j0 c0 : ℕ) → IsLeft all left job → left ≡ (j0, c0) ∷ rest → (j0 ≡ job) ⊎ (c0 ≡ 0) → IsLeft all rest job
one_passed all left rest job j0 c0 was next not_so =
    let rises = subst (λ (es : Tallies). IsStrictlySortedBy nat_cmp (keys_of es)) next was.rises in record {
      rises = sorted_tail nat_cmp j0 (keys_of rest) rises;
      same = λ j other. was.same j other ∙ ap (λ (es : Tallies). passing es j) next ∙ ap (λ n. nat_lt 0 n) (tally-cons (j0, c0) rest j ∙ at not_so j other (j == j0) refl rises);
    }
  where
    at : (j0 ≡ job) ⊎ (c0 ≡ 0) → (j : ℕ) → (j ≡ job → ⊥) → (b : Bool) → (j == j0) ≡ b → IsStrictlySortedBy nat_cmp (keys_of ((j0, c0) ∷ rest)) → cond b c0 (tally rest j) ≡ tally rest j
    at (inl mine) j other true e rises = absurd (other (equal_job j j0 e ∙ mine))
    at (inr none) j other true e rises = none ∙ sym (tally_past (j0, c0) rest rises j e)
    at why j other false e rises = refl

later : (j0 : ℕ) (es : Tallies) → AllByRecursion (λ y. nat_cmp j0 y ≡ Less) (keys_of es) → (j : ℕ) → passing es j ≡ true → j0 ≤ j
later j0 [] all j e = absurd (let never : ⊥ = cc in never)
later j0 (e ∷ es) all j t = at (later j0 es all.1 j) (j == e.0) refl (ap (λ n. nat_lt 0 n) (sym (tally-cons e es j)) ∙ t) where
  at : (passing es j ≡ true → j0 ≤ j) → (b : Bool) → (j == e.0) ≡ b → nat_lt 0 (cond b e.1 (tally es j)) ≡ true → j0 ≤ j
  at rest true same t = let here : j ≡ e.0 = equal_job j e.0 same in let low : j0 < e.0 = ranked j0 e.0 Less (sym all.0) in omega arith
  at rest false same t = rest t

-- the first that is left is another job, and has a name
pub one_found : (all left rest : Tallies) (job j0 c0 : ℕ) → IsLeft all left job → left ≡ (j0, c0) ∷ rest → (j0 ≡ job → ⊥) → 0 < c0 → IsLeastOther (passing all) job j0
one_found all left rest job j0 c0 was next other some =
    let rises = subst (λ (es : Tallies). IsStrictlySortedBy nat_cmp (keys_of es)) next was.rises in record {
      other = other;
      passing =
          was.same j0 other ∙ ap (λ (es : Tallies). passing es j0) next
          ∙ ap (λ n. nat_lt 0 n) (tally-cons (j0, c0) rest j0 ∙ ap (λ b. cond b c0 (tally rest j0)) (eq-eqb j0 j0 refl)) ∙ lt_true 0 c0 some;
      first = λ j unlike t. at j (j == j0) refl (ap (λ n. nat_lt 0 n) (sym (tally-cons (j0, c0) rest j)) ∙ ap (λ (es : Tallies). passing es j) (sym next) ∙ sym (was.same j unlike) ∙ t)
          (sorted_head nat_cmp j0 (keys_of rest) rises);
    }
  where
    at : (j : ℕ) (b : Bool) → (j == j0) ≡ b → nat_lt 0 (cond b c0 (tally rest j)) ≡ true → AllByRecursion (λ y. nat_cmp j0 y ≡ Less) (keys_of rest) → j0 ≤ j
    at j true same t low = let here : j ≡ j0 = equal_job j j0 same in omega arith
    at j false same t low = later j0 rest low j t

-- none is left
pub none_found : (all left : Tallies) (job : ℕ) → IsLeft all left job → left ≡ [] → NoOther (passing all) job
none_found all left job was none = λ j other. was.same j other ∙ ap (λ (es : Tallies). passing es j) none

-- ---- the holder of a place

pub no_holder : (job : ℕ) → NoOther (is_job None) job
no_holder job = λ j other. refl

pub own_holder : (holder job : ℕ) → holder ≡ job → NoOther (is_job (Some holder)) job
own_holder holder job same = λ j other. unlike holder j (λ e. other (sym e ∙ same))

pub other_holder : (holder job : ℕ) → (holder ≡ job → ⊥) → IsLeastOther (is_job (Some holder)) job holder
other_holder holder job other = record { other = other; passing = eq-eqb holder holder refl; first = λ j unlike t. let same : holder ≡ j = equal_job holder j t in omega arith }

-- ---- what passes one of two tests

module _ (P Q : ℕ → Bool) (job : ℕ) where
  abbrev either : ℕ → Bool
  either j = P j || Q j

  left_least : (a : ℕ) → IsLeastOther P job a → ((j : ℕ) → (j ≡ job → ⊥) → Q j ≡ true → a ≤ j) → IsLeastOther either job a
  left_least a l low = record {
    other = l.other;
    passing = or_left (P a) (Q a) l.passing;
    first = λ j other t. one_or_other (P j) (Q j) (a ≤ j) t (λ p. l.first j other p) (λ q. low j other q);
  }

  right_least : (b : ℕ) → IsLeastOther Q job b → ((j : ℕ) → (j ≡ job → ⊥) → P j ≡ true → b ≤ j) → IsLeastOther either job b
  right_least b l low = record {
    other = l.other;
    passing = or_right (P b) (Q b) l.passing;
    first = λ j other t. one_or_other (P j) (Q j) (b ≤ j) t (λ p. low j other p) (λ q. l.first j other q);
  }

  both_least : (a b : ℕ) → IsLeastOther P job a → IsLeastOther Q job b → (a ≤ b) ⊎ (b ≤ a) → IsLeastOther either job (min a b)
  both_least a b l r (inl le) =
      let is : a ≡ min a b = omega arith in
      subst (λ (m : ℕ). IsLeastOther either job m) is (left_least a l (λ j other q. let low : b ≤ j = r.first j other q in omega arith))
  both_least a b l r (inr le) =
      let is : b ≡ min a b = omega arith in
      subst (λ (m : ℕ). IsLeastOther either job m) is (right_least b r (λ j other p. let low : a ≤ j = l.first j other p in omega arith))

  in_order : (a b : ℕ) → (a ≤ b) ⊎ (b ≤ a)
  in_order zero b = inl (omega arith)
  in_order (suc a) zero = inr (omega arith)
  in_order (suc a) (suc b) = at (in_order a b) where
    at : (a ≤ b) ⊎ (b ≤ a) → (suc a ≤ suc b) ⊎ (suc b ≤ suc a)
    at (inl h) = inl (omega arith)
    at (inr h) = inr (omega arith)

  pub joined : (one other : Option ℕ) → MatchOption one (NoOther P job) (IsLeastOther P job) → MatchOption other (NoOther Q job) (IsLeastOther Q job)
      → MatchOption (lesser one other) (NoOther either job) (IsLeastOther either job)
  joined None None n m = λ j other. nor (P j) (Q j) (n j other) (m j other)
  joined None (Some b) n r = right_least b r (λ j other p. absurd (let not_so : P j ≡ false = n j other in let never : ⊥ = cc in never))
  joined (Some a) None l m = left_least a l (λ j other q. absurd (let not_so : Q j ≡ false = m j other in let never : ⊥ = cc in never))
  joined (Some a) (Some b) l r = both_least a b l r (in_order a b)

-- ---- below a node

pub nobody : (p : List (List ℕ)) (j : ℕ) → is_in_way (λ q. None) p j ≡ false
nobody [] j = refl
nobody (s ∷ p) j = nobody p j

-- nobody is in the way below a child that isn't there
pub none_below : (node : Stands) (s : List ℕ) (p : List (List ℕ)) (job : ℕ) → ((q : List (List ℕ)) → stand_at node (s ∷ q) ≡ None) → NoOther (is_in_way (λ q. stand_at node (s ∷ q)) p) job
none_below node s p job none =
    let alike : (λ q. stand_at node (s ∷ q)) ≡ (λ q. None) = (λ i. λ q. none q i) in
    λ j other. ap (λ (f : List (List ℕ) → Option Stand). is_in_way f p j) alike ∙ nobody p j

-- below a child that is there the same is told of the node as of the child
pub same_below : (node child : Stands) (s : List ℕ) (p : List (List ℕ)) (job : ℕ) (r : Option ℕ) → ((q : List (List ℕ)) → stand_at node (s ∷ q) ≡ stand_at child q)
    → MatchOption r (NoOther (is_in_way (stand_at child) p) job) (IsLeastOther (is_in_way (stand_at child) p) job)
    → MatchOption r (NoOther (is_in_way (λ q. stand_at node (s ∷ q)) p) job) (IsLeastOther (is_in_way (λ q. stand_at node (s ∷ q)) p) job)
same_below node child s p job r same told =
    let alike : (λ q. stand_at node (s ∷ q)) ≡ stand_at child = (λ i. λ q. same q i) in
    subst (λ (f : List (List ℕ) → Option Stand). MatchOption r (NoOther (is_in_way f p) job) (IsLeastOther (is_in_way f p) job)) (sym alike) told

-- ---- one entry of the tallies

pub why_passed : (j0 job c0 : ℕ) → (not (j0 == job) && nat_lt 0 c0) ≡ false → (j0 ≡ job) ⊎ (c0 ≡ 0)
why_passed j0 job c0 e = at (j0 == job) refl e where
  at : (b : Bool) → (j0 == job) ≡ b → (not b && nat_lt 0 c0) ≡ false → (j0 ≡ job) ⊎ (c0 ≡ 0)
  at true f g = inl (equal_job j0 job f)
  at false f g = inr (zero_of c0 g) where
    zero_of : (n : ℕ) → nat_lt 0 n ≡ false → n ≡ 0
    zero_of n h = let low : n ≤ 0 = from_lt_false 0 n h in omega arith

pub why_found : (j0 job c0 : ℕ) → (not (j0 == job) && nat_lt 0 c0) ≡ true → (j0 ≡ job → ⊥) × (0 < c0)
why_found j0 job c0 e = at (j0 == job) refl e where
  at : (b : Bool) → (j0 == job) ≡ b → (not b && nat_lt 0 c0) ≡ true → (j0 ≡ job → ⊥) × (0 < c0)
  at true f g = absurd (let never : ⊥ = cc in never)
  at false f g = (λ same. let is_so : (j0 == job) ≡ true = eq-eqb j0 job same in let never : ⊥ = cc in never, from_lt_true 0 c0 g)
