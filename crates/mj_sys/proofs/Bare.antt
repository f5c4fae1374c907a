-- Starts without values.
use Rattle.std.proofs.Common.{◌≡◌, ◌∙◌, ℕ, Bool, true, List, [], ◌∷◌, ◌++◌, length, map, refl, ap}
use Rattle.std.specs.Prelude.{nat_eq, ◌&&◌, Option}
use Rattle.std.specs.List.{list_all}
use Rattle.std.proofs.lemmas.List.Folds.{list_all-append}
use Rattle.mj_ask.specs.Started.{Started}
use Rattle.mj_sys.specs.Opening.{are_bare}

abbrev gives_none : Started → Bool
gives_none start = nat_eq (length start.values) 0

-- one more
pub bare_more : (starts : List Started) (start : Started) → are_bare starts ≡ true → start.values ≡ [] → are_bare (starts ++ start ∷ []) ≡ true
bare_more starts start are none =
    list_all-append gives_none starts (start ∷ [])
    ∙ ap (λ b. b && list_all gives_none (start ∷ [])) are
    ∙ ap (λ (values : List (Option (List ℕ))). nat_eq (length values) 0 && true) none

-- each made of something that gives none
pub bare_all : {A : Type 0} (start : A → Started) (xs : List A) → ((x : A) → (start x).values ≡ []) → are_bare (map start xs) ≡ true
bare_all start [] none = refl
bare_all start (x ∷ xs) none =
    ap (λ (values : List (Option (List ℕ))). nat_eq (length values) 0 && are_bare (map start xs)) (none x) ∙ bare_all start xs none
