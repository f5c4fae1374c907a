-- One event more, where so many were counted.
use Rattle.std.proofs.Common.{◌≡◌, ℕ, zero, suc, ◌+◌, ◌-◌, ◌<◌, ◌≤◌, Bool, List, [], ◌∷◌, ◌++◌, Some}
use Rattle.std.proofs.Common.{false, ap, sym, ◌∙◌, append_assoc, append-nil, arith, ◌⊎◌, inl, inr, if◌then◌else◌}
use Rattle.std.specs.Prelude.{slice_get}
use Rattle.mj_store.specs.Questions.{Content}
use Rattle.mj_explain.specs.declared.landings.Landing.{Landing}
use Rattle.mj_ask.specs.declared.noted.Noted.{Noted}
use Rattle.mj_explain.specs.Events.{change_at, is_change_of, is_counted_of}
use Rattle.mj_explain.specs.Landings.{landed, landed_in, made_at, after_landing, globals_behind, globals_to, globals_after}
use Rattle.mj_explain.specs.Clashes.{counted_in, own_at, own_in}

-- a piece more behind what was there
pub on_more : {X : Type 0} (start part old new piece whole : List X) → old ≡ start ++ part → new ≡ old ++ piece → whole ≡ part ++ piece
    → new ≡ start ++ whole
on_more start part old new piece whole h k w =
    k ∙ ap (λ xs. xs ++ piece) h ∙ append_assoc start part piece ∙ ap (λ xs. start ++ xs) (sym w)

-- no change of the job
pub landed_not : (es : List Noted) (job made place : ℕ) (ls : List Landing) → is_change_of job (slice_get es place) ≡ false
    → ls ≡ ls ++ landed es job made place
landed_not es job made place ls isnt =
    sym (append-nil ls)
    ∙ ap (λ (is : Bool). ls ++ (if is then record { write = place; made = made } ∷ [] else [])) (sym isnt)

-- one number is at most another, or greater
le_or_greater : (a b : ℕ) → (a ≤ b) ⊎ (b < a)
le_or_greater zero b = inl (omega arith)
le_or_greater (suc a) zero = inr (omega arith)
le_or_greater (suc a) (suc b) = by (le_or_greater a b)
  where
    by : (a ≤ b) ⊎ (b < a) → (suc a ≤ suc b) ⊎ (suc b < suc a)
    by (inl le) = inl (omega (arith, le))
    by (inr greater) = inr (omega (arith, greater))

-- how far a loop went at its end, also where the end lies before the start
pub same_span : (from end place : ℕ) → from ≤ place → end ≤ place → (from ≤ end → place ≤ end) → (end < from → place ≡ from)
    → place - from ≡ end - from
same_span from end place up past fits stays = by (le_or_greater from end)
  where
    by : (from ≤ end) ⊎ (end < from) → place - from ≡ end - from
    by (inl le) = let there : place ≤ end = fits le in omega (arith, there, past)
    by (inr less) = let same : place ≡ from = stays less in omega (arith, same, less)

pub landed_on : (es : List Noted) (job made from place : ℕ) → from ≤ place
    → landed_in es job made from (place + 1 - from) ≡ landed_in es job made from (place - from) ++ landed es job made place
landed_on es job made from place le =
    let more : place + 1 - from ≡ suc (place - from) = omega (arith, le) in
    let at : from + (place - from) ≡ place = omega (arith, le) in
    ap (landed_in es job made from) more ∙ ap (λ p. landed_in es job made from (place - from) ++ landed es job made p) at

pub landed_none : (es : List Noted) (job made from place : ℕ) → place ≤ from → landed_in es job made from (place - from) ≡ []
landed_none es job made from place le = let none : place - from ≡ 0 = omega (arith, le) in ap (landed_in es job made from) none

pub own_on : (es : List Noted) (job from place : ℕ) → from ≤ place
    → own_in es job from (place + 1 - from) ≡ own_in es job from (place - from) ++ own_at job (slice_get es place) (change_at es place)
own_on es job from place le =
    let more : place + 1 - from ≡ suc (place - from) = omega (arith, le) in
    let at : from + (place - from) ≡ place = omega (arith, le) in
    ap (own_in es job from) more ∙ ap (λ p. own_in es job from (place - from) ++ own_at job (slice_get es p) (change_at es p)) at

pub own_none : (es : List Noted) (job from place : ℕ) → place ≤ from → own_in es job from (place - from) ≡ []
own_none es job from place le = let none : place - from ≡ 0 = omega (arith, le) in ap (own_in es job from) none

pub counted_on : (es : List Noted) (job from place : ℕ) → from ≤ place
    → counted_in es job from (place + 1 - from) ≡ counted_in es job from (place - from) + (if is_counted_of job (slice_get es place) then 1 else 0)
counted_on es job from place le =
    let more : place + 1 - from ≡ suc (place - from) = omega (arith, le) in
    let at : from + (place - from) ≡ place = omega (arith, le) in
    ap (counted_in es job from) more ∙ ap (λ p. counted_in es job from (place - from) + (if is_counted_of job (slice_get es p) then 1 else 0)) at

pub counted_none : (es : List Noted) (job from : ℕ) → counted_in es job from (from - from) ≡ 0
counted_none es job from = let none : from - from ≡ 0 = omega arith in ap (counted_in es job from) none

pub behind_on : (es : List Noted) (ls : List Landing) (g : Content) (i : ℕ) (l : Landing) → slice_get ls i ≡ Some l
    → globals_behind es ls g (i + 1) ≡ after_landing es (Some l) (globals_behind es ls g i)
behind_on es ls g i l is =
    let more : i + 1 ≡ suc i = omega arith in
    ap (globals_behind es ls g) more ∙ ap (λ o. after_landing es o (globals_behind es ls g i)) is

pub globals_on : (es : List Noted) (g : Content) (place : ℕ) → globals_to es g (place + 1) ≡ globals_after es (made_at es place) (globals_to es g place)
globals_on es g place = let more : place + 1 ≡ suc place = omega arith in ap (globals_to es g) more
