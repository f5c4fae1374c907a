-- The least place at which a text stands in another is the one that the search of `memchr` gives.
use Rattle.std.proofs.Common.{◌≡◌, ℕ, ◌+◌, ◌-◌, ◌≤◌, true, false, nat_eq, nat_le, List, [], ◌∷◌, length, take, drop, Option, Some, None, refl, sym, ap, subst, ◌∙◌, arith, ⊎_elim, length-drop, length-take, get_or, get_or-drop}
use Rattle.std.proofs.lemmas.Bool.{cond_both, cases_eq, cases_lt, leb-true, le-leb, false≢true}
use Rattle.std.proofs.lemmas.List.{take_rest}
use Rattle.std.proofs.lemmas.Slice.Eq.{bytes_eq-Decides}
use Rattle.std.specs.Option.{option_map}
use Rattle.std.specs.List.{starts_with}
use Rattle.memchr.specs.Find.{IsFirst, OccursAt, FindsNeedle}
use Rattle.memchr.proofs.lemmas.MatchLemmas.{OccursAt-part, OccursAt-from_part}
use Rattle.mj_text.specs.Find.{first_place, find_from}

-- two answers of one search are the same
pub IsFirst-same : (P : ℕ → Type 0) (i j : ℕ) (r s : Option ℕ) → IsFirst P i j r → IsFirst P i j s → r ≡ s
IsFirst-same P i j None None a b = refl
IsFirst-same P i j None (Some m) a b = absurd (a m b.0.low b.0.high b.1)
IsFirst-same P i j (Some k) None a b = absurd (b k a.0.low a.0.high a.1)
IsFirst-same P i j (Some k) (Some m) a b =
    let not_below : m ≤ k = ⊎_elim (λ below. absurd (b.0.before k a.0.low below a.1)) (λ from. from) (cases_lt k m) in
    let not_above : k ≤ m = ⊎_elim (λ below. absurd (a.0.before m b.0.low below b.1)) (λ from. from) (cases_lt m k) in
    ap (λ n. Some n) (omega arith)

module _ (part : List ℕ) where
  starts-occurs : (hay : List ℕ) → starts_with nat_eq hay part ≡ true → OccursAt hay part 0
  starts-occurs hay begins =
      let same : part ≡ take (length part) hay = (bytes_eq-Decides part (take (length part) hay)).0 begins in
      OccursAt-from_part hay part 0 (omega (arith, ap length same, length-take (length part) hay)) (sym same)

  occurs-starts : (hay : List ℕ) → OccursAt hay part 0 → starts_with nat_eq hay part ≡ true
  occurs-starts hay h = (bytes_eq-Decides part (take (length part) hay)).1 (sym (OccursAt-part hay part 0 h))

  occurs-later : (hay : List ℕ) (start k : ℕ) → start ≤ length hay → OccursAt (drop start hay) part k → OccursAt hay part (k + start)
  occurs-later hay start k within h = record {
    fits = omega (arith, h.fits, length-drop start hay);
    reads = λ j l. ap (λ m. get_or hay m 0) (omega arith) ∙ sym (get_or-drop start hay (k + j) 0) ∙ h.reads j l;
  }

  occurs-rest : (hay : List ℕ) (start k : ℕ) → start ≤ k → OccursAt hay part k → OccursAt (drop start hay) part (k - start)
  occurs-rest hay start k from h = record {
    fits = omega (arith, h.fits, length-drop start hay);
    reads = λ j l. get_or-drop start hay (k - start + j) 0 ∙ ap (λ m. get_or hay m 0) (omega arith) ∙ h.reads j l;
  }

  -- a search of what follows place `start` is one from there on
  pub FindsNeedle-later : (hay : List ℕ) (start : ℕ) → start ≤ length hay → (r : Option ℕ) → FindsNeedle (drop start hay) part 0 r → FindsNeedle hay part start (option_map (λ k. k + start) r)
  FindsNeedle-later hay start within None h = λ k low high occurs.
      h (k - start) (omega arith) (omega (arith, length-drop start hay)) (occurs-rest hay start k low occurs)
  FindsNeedle-later hay start within (Some place) h = (
    record {
      low = omega arith;
      high = omega (arith, h.0.high, length-drop start hay);
      before = λ k low below occurs. h.0.before (k - start) (omega arith) (omega arith) (occurs-rest hay start k low occurs);
    },
    occurs-later hay start place within h.1,
  )

  -- the start of a text is the first place, where the part stands there
  here : (hay : List ℕ) → starts_with nat_eq hay part ≡ true → FindsNeedle hay part 0 (Some 0)
  here hay begins = (record { low = omega arith; high = omega arith; before = λ k low below. absurd (omega arith) }, starts-occurs hay begins)

  -- else the first place is one of the rest
  past : (x : ℕ) (xs : List ℕ) → starts_with nat_eq (x ∷ xs) part ≡ false → (r : Option ℕ) → FindsNeedle (x ∷ xs) part 1 r → FindsNeedle (x ∷ xs) part 0 r
  past x xs other None h = λ k low high occurs.
      ⊎_elim (λ zero. absurd (false≢true (sym other ∙ occurs-starts (x ∷ xs) (subst (OccursAt (x ∷ xs) part) zero occurs))))
      (λ above. h k (omega arith) high occurs) (cases_eq k 0)
  past x xs other (Some place) h = (
    record {
      low = omega arith;
      high = h.0.high;
      before = λ k low below occurs.
          ⊎_elim (λ zero. absurd (false≢true (sym other ∙ occurs-starts (x ∷ xs) (subst (OccursAt (x ∷ xs) part) zero occurs))))
          (λ above. h.0.before k (omega arith) below occurs) (cases_eq k 0);
    },
    h.1,
  )

  pub first_place-FindsNeedle : (hay : List ℕ) → FindsNeedle hay part 0 (first_place part hay)
  first_place-FindsNeedle [] =
      cond_both (starts_with nat_eq [] part) (Some 0) None (FindsNeedle [] part 0) (λ begins. here [] begins)
      (λ other k low high occurs. false≢true (sym other ∙ occurs-starts [] (subst (OccursAt [] part) (omega arith) occurs)))
  first_place-FindsNeedle (x ∷ xs) =
      cond_both (starts_with nat_eq (x ∷ xs) part) (Some 0) (option_map (λ k. k + 1) (first_place part xs)) (FindsNeedle (x ∷ xs) part 0)
      (λ begins. here (x ∷ xs) begins)
      (λ other. past x xs other (option_map (λ k. k + 1) (first_place part xs))
      (FindsNeedle-later (x ∷ xs) 1 (omega arith) (first_place part xs) (first_place-FindsNeedle xs)))

  -- the definition gives the least place from `start` on at which the part stands
  pub find_from-FindsNeedle : (hay : List ℕ) (start : ℕ) → FindsNeedle hay part start (find_from hay part start)
  find_from-FindsNeedle hay start =
      cond_both (nat_le start (length hay)) (option_map (λ k. k + start) (first_place part (drop start hay))) None (FindsNeedle hay part start)
      (λ within. FindsNeedle-later hay start (leb-true _ _ within) _ (first_place-FindsNeedle (drop start hay)))
      (λ beyond k low high occurs. false≢true (sym beyond ∙ le-leb _ _ (omega arith)))

  pub FindsNeedle-find_from : (hay : List ℕ) (start : ℕ) (r : Option ℕ) → FindsNeedle hay part start r → r ≡ find_from hay part start
  FindsNeedle-find_from hay start r h = IsFirst-same _ _ _ r _ h (find_from-FindsNeedle hay start)

-- what the search of a slice from `start` on says of the text
pub FindsNeedle-text : (text part hay needle : List ℕ) (start : ℕ) → hay ≡ text → needle ≡ part → start ≤ length hay → (r : Option ℕ)
    → FindsNeedle (take (length hay - start) (drop start hay)) needle 0 r → FindsNeedle text part start (option_map (λ k. k + start) r)
FindsNeedle-text text part hay needle start same_text same_part within r h =
    let Found : List ℕ → List ℕ → Type 0 = λ xs ys. FindsNeedle xs ys start (option_map (λ k. k + start) r) in
    let rest = subst (λ (xs : List ℕ). FindsNeedle xs needle 0 r) (take_rest hay start) h in
    subst (λ (xs : List ℕ). Found xs part) same_text (subst (λ (ys : List ℕ). Found hay ys) same_part (FindsNeedle-later needle hay start within r rest))
