-- Stamps over a list of changes, one change after the other.
use Rattle.std.proofs.Common.{◌≡◌, ◌∙◌, ℕ, ◌+◌, ◌<◌, Bool, true, false, List, Result, Ok, Err, OnOk, OnErr, is_err, refl, sym, ap, take, length, get_or}
use Rattle.std.specs.List.{fold}
use Rattle.std.proofs.lemmas.Bool.{true≢false}
use Rattle.std.proofs.lemmas.List.Folds.{list_any_at}
use Rattle.std.proofs.lemmas.List.Sums.{fold_more}
use Rattle.mj_subs.specs.Name.{Name}
use Rattle.mj_store.specs.Questions.{same_word}
use Rattle.mj_store.specs.Changes.{followed_by}
use Rattle.mj_globs.specs.declared.change.Change.{Change}
use Rattle.mj_globs.specs.declared.change.Change.TheVariants as change
use Rattle.mj_globs.specs.Changes.{is_to, are_to}
use Rattle.mj_globs.specs.Stamps.{Stamps, Stamped, Rises, KeepsStamps}
use Rattle.mj_globs.proofs.Stamping.{rises_same}

-- what holds where no error came
pub of_ok : {T E : Type 0} (r : Result T E) (P : Type 0) → OnOk r P → is_err r ≡ false → P
of_ok (Ok x) P h none = h
of_ok (Err e) P h none = absurd (true≢false none)

-- what holds, holds where an error came
pub on_err : {T E : Type 0} (r : Result T E) {P : Type 0} → P → OnErr r P
on_err (Ok x) p = tt
on_err (Err e) p = p

-- what the next item of a list leaves
pub fold_next : {A B : Type 0} (f : B → A → B) (start now next : B) (xs : List A) (i : ℕ) (x : A) → i < length xs → x ≡ get_or xs i x → now ≡ fold f start (take i xs) → next ≡ f now x
    → next ≡ fold f start (take (i + 1) xs)
fold_next f start now next xs i x there is so step =
    step ∙ ap (λ b. f b x) so ∙ ap (f (fold f start (take i xs))) is ∙ sym (fold_more f start xs i x there)

-- a name that no change of a list is to isn't that of one of them
apart_at : (xs : List Change) (i : ℕ) (x : Change) (n : Name) → i < length xs → x ≡ get_or xs i x → are_to xs n ≡ false → is_to x n ≡ false
apart_at xs i x n there is none = by (is_to x n) refl where
  by : (b : Bool) → is_to x n ≡ b → b ≡ false
  by true e = absurd (true≢false (sym (list_any_at (λ c. is_to c n) xs i x there (ap (λ c. is_to c n) (sym is) ∙ e)) ∙ none))
  by false e = refl

-- a change of a list leaves the stamps that the list leaves
pub keeps_next : (xs : List Change) (i : ℕ) (x : Change) (a b c : Stamps) → i < length xs → x ≡ get_or xs i x → KeepsStamps (are_to xs) a b → KeepsStamps (is_to x) b c
    → KeepsStamps (are_to xs) a c
keeps_next xs i x a b c there is so step n e = step n (apart_at xs i x n there is e) ∙ so n e

-- a change of a kind leaves the stamps that its name leaves
pub keeps_set : (x : Change) (m n : Name) (v : List ℕ) (a b : Stamps) → x ≡ change.Set n v → m ≡ n → KeepsStamps (same_word m) a b → KeepsStamps (is_to x) a b
keeps_set x m n v a b is same keeps k e = keeps k (ap (λ (w : Name). same_word w k) same ∙ ap (λ (y : Change). is_to y k) (sym is) ∙ e)

pub keeps_put : (x : Change) (n : Name) (nodes : List (List (List ℕ) × List ℕ)) (a b : Stamps) → x ≡ change.Put n nodes → KeepsStamps (same_word n) a b → KeepsStamps (is_to x) a b
keeps_put x n nodes a b is keeps k e = keeps k (ap (λ (y : Change). is_to y k) (sym is) ∙ e)

-- a name that follows another has its word
pub keeps_place : (n place : Name) (p : List (List ℕ)) (a b c : Stamps) → place ≡ followed_by n p → KeepsStamps (same_word n) a b → KeepsStamps (same_word place) b c → KeepsStamps (same_word n) a c
keeps_place n place p a b c is so step k e = step k (ap (λ (w : Name). same_word w k) is ∙ e) ∙ so k e

-- a name that was handed back is the one that was handed over
pub keeps_returned : (m n : Name) (a b c : Stamps) → m ≡ n → KeepsStamps (same_word n) a b → KeepsStamps (same_word m) b c → KeepsStamps (same_word n) a c
keeps_returned m n a b c same one two k e = two k (ap (λ (w : Name). same_word w k) same ∙ e) ∙ one k e

-- a store that isn't touched
pub rises_itself : (a : Stamped) → Rises a a
rises_itself a = rises_same a a refl refl
