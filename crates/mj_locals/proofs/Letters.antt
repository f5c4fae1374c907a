-- The letters of words of one letter lead to their places still, where a word comes.
use Rattle.std.proofs.Common.{◌≡◌, ℕ, ◌+◌, ◌<◌, ◌≤◌, Bool, true, false, cond, List, [], ◌∷◌, length, get_or, replicate, zero, suc, inl, inr, Some, None, Vec, Global, refl, sym, ap, ◌∙◌, subst, arith}
use Rattle.std.specs.Prelude.{slice_set}
use Rattle.std.specs.Ordering.{is_eq}
use Rattle.std.specs.BTreeMap.{insert_entry}
use Rattle.std.proofs.lemmas.List.{get_or-set_same, get_or-set_other}
use Rattle.mj_globs.proofs.Groups.{W}
use Rattle.mj_locals.specs.Letters.{place_in, AreLed, IsLeading}
use Rattle.mj_locals.proofs.Places.{found, same_word, itself}

pub zeros : (n letter : ℕ) → ◌≡◌ {A = ℕ} (get_or (replicate n 0) letter 0) 0
zeros zero letter = refl
zeros (suc n) zero = refl
zeros (suc n) (suc letter) = zeros n letter

pub none_led : (letters : List ℕ) (entries : List (Vec ℕ Global × ℕ)) → ((letter : ℕ) → get_or letters letter 0 ≡ 0) → AreLed letters entries
none_led letters entries none letter p e = absurd (omega (arith, none letter, e))

-- a word comes that had no place
module _ (letters : List ℕ) (es : List (Vec ℕ Global × ℕ)) (led : AreLed letters es) (key : Vec ℕ Global) (p : ℕ) (none : place_in key.items es ≡ None) where
  abbrev entries : List (Vec ℕ Global × ℕ)
  entries = insert_entry (λ (x y : Vec ℕ Global). W x.items y.items) es key p

  place : (v : List ℕ) → place_in v entries ≡ cond (is_eq (W v key.items)) (Some p) (place_in v es)
  place v = found es key p v none

  -- the letters that led to words do so still
  old : (letter q : ℕ) → get_or letters letter 0 ≡ q + 1 → place_in (letter ∷ []) entries ≡ Some q
  old letter q e = place (letter ∷ []) ∙ by (is_eq (W (letter ∷ []) key.items)) refl
    where
      by : (b : Bool) → is_eq (W (letter ∷ []) key.items) ≡ b → cond (is_eq (W (letter ∷ []) key.items)) (Some p) (place_in (letter ∷ []) es) ≡ Some q
      by true is =
          let no : Some q ≡ None = sym (led letter q e) ∙ ap (λ v. place_in v es) (same_word (letter ∷ []) key.items is) ∙ none in
          absurd cc
      by false is = ap (λ b. cond b (Some p) (place_in (letter ∷ []) es)) is ∙ led letter q e

  pub led_still : (fs : List (Vec ℕ Global × ℕ)) → fs ≡ insert_entry (λ (x y : Vec ℕ Global). W x.items y.items) es key p → AreLed letters fs
  led_still fs is = subst (AreLed letters) (sym is) old

  -- that of the word leads there now
  module _ (letter : ℕ) (new : List ℕ) (word : key.items ≡ letter ∷ []) where
    own : place_in (letter ∷ []) entries ≡ Some p
    own =
        place (letter ∷ [])
        ∙ ap (λ v. cond (is_eq (W (letter ∷ []) v)) (Some p) (place_in (letter ∷ []) es)) word
        ∙ ap (λ b. cond b (Some p) (place_in (letter ∷ []) es)) (itself (letter ∷ []))

    set_led : letter < length letters → new ≡ slice_set letters letter (p + 1) → AreLed new entries
    set_led within is l q e = by (is_eq (W (l ∷ []) (letter ∷ []))) refl
      where
        by : (b : Bool) → is_eq (W (l ∷ []) (letter ∷ [])) ≡ b → place_in (l ∷ []) entries ≡ Some q
        by true same =
            let one : l ∷ [] ≡ letter ∷ [] = same_word (l ∷ []) (letter ∷ []) same in
            let l_is : l ≡ letter = cc in
            let next : q + 1 ≡ p + 1 = sym e ∙ ap (λ ls. get_or ls l 0) is ∙ ap (λ k. get_or (slice_set letters letter (p + 1)) k 0) l_is ∙ get_or-set_same letters letter (p + 1) 0 within in
            let q_is : p ≡ q = omega (arith, next) in
            ap (λ k. place_in (k ∷ []) entries) l_is ∙ own ∙ ap (λ k. Some k) q_is
        by false other =
            old l q (sym (get_or-set_other letters letter l (p + 1) 0 (λ same. apart (ap (λ k. is_eq (W (k ∷ []) (letter ∷ []))) same))) ∙ ap (λ ls. get_or ls l 0) (sym is) ∙ e)
          where
            apart : is_eq (W (l ∷ []) (letter ∷ [])) ≡ is_eq (W (letter ∷ []) (letter ∷ [])) → ⊥
            apart so =
                let no : false ≡ true = sym other ∙ so ∙ itself (letter ∷ []) in
                absurd cc

    pub led_now : (fs : List (Vec ℕ Global × ℕ)) → IsLeading letter p letters new → fs ≡ insert_entry (λ (x y : Vec ℕ Global). W x.items y.items) es key p → AreLed new fs
    led_now fs leads is = subst (AreLed new) (sym is) (elim leads [ inl set ↦ set_led set.0 set.1 | inr same ↦ subst (λ ls. AreLed ls entries) (sym same) old ])

-- a word that has one letter
pub only : (w : List ℕ) → 1 ≤ length w → length w < 2 → w ≡ get_or w 0 0 ∷ []
only [] some few = absurd (omega (arith, some))
only (letter ∷ []) some few = refl
only (letter ∷ next ∷ rest) some few = absurd (omega (arith, few))
