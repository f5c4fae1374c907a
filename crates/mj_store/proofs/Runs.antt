-- A list of accesses, one at a time.
use Rattle.std.proofs.Common.{◌≡◌, ℕ, ◌+◌, ◌<◌, List, [], ◌∷◌, ◌++◌, length, get_or, take, drop, refl, sym, ap, ◌∙◌, append_assoc, Result, Ok, Err, OnErr}
use Rattle.std.proofs.lemmas.List.{take_more, at_drop_more}
use Rattle.mj_store.specs.Questions.{Content}
use Rattle.mj_store.specs.Runs.{answer_of, after_access, answers_of, after_accesses}
use Rattle.mj_store.specs.declared.access.Access.{Access}
use Rattle.mj_store.specs.declared.access.Answer.{Answer}

-- one access more
after_accesses_push : (xs : List Access) (a : Access) (content : Content) → after_accesses (xs ++ a ∷ []) content ≡ after_access a (after_accesses xs content)
after_accesses_push [] a content = refl
after_accesses_push (x ∷ xs) a content = after_accesses_push xs a (after_access x content)

-- the access at i, after those before it
pub after_next : (xs : List Access) (i : ℕ) (a : Access) (start now next : Content) → i < length xs → a ≡ get_or xs i a → now ≡ after_accesses (take i xs) start → next ≡ after_access a now
    → next ≡ after_accesses (take (i + 1) xs) start
after_next xs i a start now next lt here front step =
    step ∙ ap (after_access a) front ∙ sym (after_accesses_push (take i xs) a start)
    ∙ ap (λ (ys : List Access). after_accesses ys start) (ap (λ (y : Access). take i xs ++ y ∷ []) here ∙ sym (take_more xs i a lt))

-- its answer comes before those to what is left
pub answers_next : (xs : List Access) (i : ℕ) (a : Access) (now next : Content) (done : List Answer) → i < length xs → a ≡ get_or xs i a → next ≡ after_access a now
    → (done ++ answer_of a now ∷ []) ++ answers_of (drop (i + 1) xs) next ≡ done ++ answers_of (drop i xs) now
answers_next xs i a now next done lt here step =
    append_assoc done (answer_of a now ∷ []) (answers_of (drop (i + 1) xs) next)
    ∙ ap (λ (c : Content). done ++ answer_of a now ∷ answers_of (drop (i + 1) xs) c) step
    ∙ ap (λ (y : Access). done ++ answers_of (y ∷ drop (i + 1) xs) now) here
    ∙ sym (at_drop_more (λ ys. done ++ answers_of ys now) xs i a lt)

-- what holds in any case holds at an error
pub on_err_always : {T E : Type 0} (r : Result T E) {P : Type 0} → P → OnErr r P
on_err_always (Ok x) p = tt
on_err_always (Err e) p = p
