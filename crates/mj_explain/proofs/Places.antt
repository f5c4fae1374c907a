-- The places of the commits that clashed, one event more.
use Rattle.std.proofs.Common.{◌≡◌, ℕ, zero, suc, ◌+◌, ◌≤◌, Bool, true, false, List, [], ◌∷◌, ◌++◌, length, take, Some}
use Rattle.std.proofs.Common.{ap, sym, ◌∙◌, append-nil, arith, if◌then◌else◌}
use Rattle.std.proofs.lemmas.List.{length-append, take_all, take-append-le}
use Rattle.std.specs.Prelude.{slice_get}
use Rattle.mj_ask.specs.declared.noted.Noted.{Noted}
use Rattle.mj_ask.specs.declared.clash.Clash.{Clash}
use Rattle.mj_explain.specs.Clashes.{IsClashOf, is_clash, is_clash_of, clash_places}

-- no more than there are events
pub places_within : (es : List Noted) (k : ℕ) → length (clash_places es k) ≤ k
places_within es zero = omega arith
places_within es (suc k) = by (is_clash_of (slice_get es k)) (places_within es k)
  where
    by : (is : Bool) → length (clash_places es k) ≤ k → length (clash_places es k ++ (if is then k ∷ [] else [])) ≤ suc k
    by true before = omega (arith, before, length-append (clash_places es k) (k ∷ []))
    by false before = omega (arith, before, length-append (clash_places es k) [])

module _ (es : List Noted) (k : ℕ) (e : Noted) (there : slice_get es k ≡ Some e) where
  places_more : (is : Bool) → is_clash e.ask e.reply ≡ is → clash_places es (k + 1) ≡ clash_places es k ++ (if is then k ∷ [] else [])
  places_more is says =
      let more : k + 1 ≡ suc k = omega arith in
      ap (clash_places es) more ∙ ap (λ (b : Bool). clash_places es k ++ (if b then k ∷ [] else [])) (ap is_clash_of there ∙ says)

  -- one that clashed
  pub places_yes : (clash : Clash) → IsClashOf e.ask e.reply (Some clash) → clash_places es (k + 1) ≡ clash_places es k ++ k ∷ []
  places_yes clash is = places_more true (λ i. is_clash (is.0 i) (is.1 i))

  -- and none
  pub places_no : is_clash e.ask e.reply ≡ false → clash_places es (k + 1) ≡ clash_places es k
  places_no isnt = places_more false isnt ∙ append-nil (clash_places es k)

-- one item more of those that are taken
pub take_yes : (most x : ℕ) (xs : List ℕ) → length xs + 1 ≤ most → take most (xs ++ x ∷ []) ≡ take most xs ++ x ∷ []
take_yes most x xs fits =
    let long = length-append xs (x ∷ []) in
    take_all most (xs ++ x ∷ []) (omega (arith, fits, long)) ∙ ap (λ (ys : List ℕ). ys ++ x ∷ []) (sym (take_all most xs (omega (arith, fits))))

-- and one too many
pub take_no : (most x : ℕ) (xs : List ℕ) → most ≤ length xs → take most (xs ++ x ∷ []) ≡ take most xs
take_no most x xs beyond = take-append-le most xs (x ∷ []) beyond
