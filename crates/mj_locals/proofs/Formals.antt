-- The words of a group, and the values that they get one by one.
use Rattle.std.proofs.Common.{◌≡◌, ℕ, ◌+◌, ◌<◌, zero, suc, List, [], ◌∷◌, length, map, drop, get_or, Option, None, refl, sym, ap, ◌∙◌, arith}
use Rattle.std.specs.Prelude.{slice_set}
use Rattle.std.proofs.lemmas.List.{drop_more}
use Rattle.mj_store.specs.Questions.{Content}
use Rattle.mj_semantics.specs.State.{bound}
use Rattle.mj_locals.specs.Groups.{Pairs}
use Rattle.mj_locals.specs.Kept.{named, HavePlaces}
use Rattle.mj_locals.specs.Trees.{Trees, word_at}

pub place_within : (n : ℕ) (ps : Pairs) (k : ℕ) → HavePlaces n ps → k < length ps → (get_or ps k (0, [])).0 < n
place_within n [] k h less = absurd (omega arith)
place_within n (p ∷ ps) zero h less = h.0
place_within n (p ∷ ps) (suc k) h less = place_within n ps k h.1 (omega arith)

pub words_of_group : (ts : Trees) (ps : Pairs) → length (map (λ k. k.0) (named ts ps)) ≡ length ps
words_of_group ts [] = refl
words_of_group ts (p ∷ ps) = ap suc (words_of_group ts ps)

pub word_of_group : (ts : Trees) (ps : Pairs) (k : ℕ) (e : List ℕ) → k < length ps → word_at ts (get_or ps k (0, [])).0 ≡ get_or (map (λ x. x.0) (named ts ps)) k e
word_of_group ts [] k e less = absurd (omega arith)
word_of_group ts (p ∷ ps) zero e less = refl
word_of_group ts (p ∷ ps) (suc k) e less = word_of_group ts ps k e (omega arith)

-- ---- values that were taken so far

pub value_left : {A : Type 0} (xs ys : List A) (k : ℕ) (e : A) → k < length xs → k < length ys → drop k xs ≡ drop k ys → get_or xs k e ≡ get_or ys k e
value_left [] ys k e f g is = absurd (omega arith)
value_left (x ∷ xs) [] k e f g is = absurd (omega arith)
value_left (x ∷ xs) (y ∷ ys) zero e f g is = cc
value_left (x ∷ xs) (y ∷ ys) (suc k) e f g is = value_left xs ys k e (omega arith) (omega arith) is

pub values_left : {A : Type 0} (xs ys : List A) (k : ℕ) (a : A) → k < length xs → k < length ys → drop k xs ≡ drop k ys → drop (suc k) (slice_set xs k a) ≡ drop (suc k) ys
values_left [] ys k a f g is = absurd (omega arith)
values_left (x ∷ xs) [] k a f g is = absurd (omega arith)
values_left (x ∷ xs) (y ∷ ys) zero a f g is = cc
values_left (x ∷ xs) (y ∷ ys) (suc k) a f g is = values_left xs ys k a (omega arith) (omega arith) is

-- a formal without a value
pub bound_skip : (xs : List (List ℕ)) (vs : List (Option (List ℕ))) (k : ℕ) (c bs : Content)
    → k < length xs → k < length vs → get_or vs k None ≡ None → bound (drop k xs) (drop k vs) c ≡ bs → bound (drop (k + 1) xs) (drop (k + 1) vs) c ≡ bs
bound_skip xs vs k c bs p q none so_far =
    sym (λ i. bound (drop_more xs k [] p i) ((drop_more vs k None q ∙ ap (λ (y : Option (List ℕ)). y ∷ drop (k + 1) vs) none) i) c)
    ∙ so_far
