-- What lies in a list with the innermost last.
use Rattle.std.proofs.Common.{◌≡◌, ℕ, suc, ◌-◌, ◌<◌, Bool, true, false, ◌||◌, List, [], ◌∷◌, ◌++◌, length, reverse, map, drop, get_or, Option, refl, sym, ap, ◌∙◌, arith, length-append}
use Rattle.std.specs.Prelude.{slice_set}
use Rattle.std.specs.List.{list_any}
use Rattle.std.proofs.Math.Seq.{set-append_seam, get_or-append_seam}
use Rattle.std.proofs.lemmas.List.{reverse-append, reverse-reverse, map-append, length-reverse, length-map}
use Rattle.mj_semantics.specs.State.{Frame}
use Rattle.mj_frames.specs.Frames.{popped_from}

module _ {A B : Type 0} (f : A → B) where
  abbrev pub seen : List A → List B
  seen xs = reverse (map f xs)

  -- one more, which is the innermost now
  pub seen_more : (xs : List A) (x : A) → seen (xs ++ x ∷ []) ≡ f x ∷ seen xs
  seen_more xs x = ap reverse (map-append f xs (x ∷ [])) ∙ reverse-append (map f xs) (f x ∷ [])

  back : (xs r : List A) → reverse xs ≡ r → xs ≡ reverse r
  back xs r w = sym (reverse-reverse xs) ∙ ap reverse w

  -- another in place of the innermost
  pub seen_set : (xs : List A) (n : ℕ) (y : A) → n ≡ length xs → 0 < n → seen (slice_set xs (n - 1) y) ≡ f y ∷ drop 1 (seen xs)
  seen_set xs n y e some = go (reverse xs) refl
    where
      go : (r : List A) → reverse xs ≡ r → seen (slice_set xs (n - 1) y) ≡ f y ∷ drop 1 (seen xs)
      go [] w = absurd (omega (arith, ap length (back xs [] w), e))
      go (x ∷ rest) w =
          let b : xs ≡ reverse rest ++ x ∷ [] = back xs (x ∷ rest) w ∙ reverse-append (x ∷ []) rest in
          let k : n - 1 ≡ length (reverse rest) = omega (arith, e, ap length b, length-append (reverse rest) (x ∷ [])) in
          ap (λ j. seen (slice_set xs j y)) k
          ∙ ap (λ l. seen (slice_set l (length (reverse rest)) y)) b
          ∙ ap seen (set-append_seam (reverse rest) x [] y)
          ∙ seen_more (reverse rest) y
          ∙ ap (λ l. f y ∷ drop 1 l) (sym (ap seen b ∙ seen_more (reverse rest) x))

  -- the innermost comes first
  pub seen_last : (xs : List A) (x : A) → 0 < length xs → x ≡ get_or xs (length xs - 1) x → seen xs ≡ f x ∷ drop 1 (seen xs)
  seen_last xs x some is = go (reverse xs) refl
    where
      go : (r : List A) → reverse xs ≡ r → seen xs ≡ f x ∷ drop 1 (seen xs)
      go [] w = absurd (omega (arith, ap length (back xs [] w), some))
      go (y ∷ rest) w =
          let b : xs ≡ reverse rest ++ y ∷ [] = back xs (y ∷ rest) w ∙ reverse-append (y ∷ []) rest in
          let k : length xs - 1 ≡ length (reverse rest) = omega (arith, ap length b, length-append (reverse rest) (y ∷ [])) in
          let same : x ≡ y = is ∙ ap (λ j. get_or xs j x) k ∙ ap (λ l. get_or l (length (reverse rest)) x) b ∙ get_or-append_seam (reverse rest) y [] x in
          let whole : seen xs ≡ f y ∷ seen (reverse rest) = ap seen b ∙ seen_more (reverse rest) y in
          whole ∙ ap (λ z. f z ∷ seen (reverse rest)) (sym same) ∙ ap (λ l. f x ∷ drop 1 l) (sym whole)

  pub seen_length : (xs : List A) → length (seen xs) ≡ length xs
  seen_length xs = length-reverse (map f xs) ∙ length-map xs f

-- the innermost goes, of which so many are to stay
pub dropped_one : (depth : ℕ) (fs gs : List Frame) (o : Option Frame) → depth < length fs → popped_from fs ≡ (o, gs) → drop (length gs - depth) gs ≡ drop (length fs - depth) fs
dropped_one depth [] gs o above e = absurd (omega arith)
dropped_one depth (f ∷ fs) gs o above e =
    ap (λ (xs : List Frame). drop (length xs - depth) xs) (sym (ap (λ p. p.1) e)) ∙ sym (ap (λ k. drop k (f ∷ fs)) (less_one depth (length fs) above))
  where
    less_one : (a b : ℕ) → a < suc b → suc b - a ≡ suc (b - a)
    less_one a b h = omega arith

-- whether one of a list is so is the same from behind
or_last : (a b : Bool) → (a || (b || false)) ≡ (b || a)
or_last true true = refl
or_last true false = refl
or_last false true = refl
or_last false false = refl

or_assoc : (a b d : Bool) → ((a || b) || d) ≡ (a || (b || d))
or_assoc true b d = refl
or_assoc false b d = refl

any_both : {A : Type 0} (p : A → Bool) (xs ys : List A) → list_any p (xs ++ ys) ≡ (list_any p xs || list_any p ys)
any_both p [] ys = refl
any_both p (x ∷ xs) ys = ap (λ b. p x || b) (any_both p xs ys) ∙ sym (or_assoc (p x) (list_any p xs) (list_any p ys))

pub any_reverse : {A : Type 0} (p : A → Bool) (xs : List A) → list_any p (reverse xs) ≡ list_any p xs
any_reverse p [] = refl
any_reverse p (x ∷ xs) =
    ap (list_any p) (reverse-append (x ∷ []) xs)
    ∙ any_both p (reverse xs) (x ∷ [])
    ∙ or_last (list_any p (reverse xs)) (p x)
    ∙ ap (λ b. p x || b) (any_reverse p xs)
