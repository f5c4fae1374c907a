-- Where transactions began, one event after the other.
use Rattle.std.proofs.Common.{◌≡◌, ℕ, zero, suc, ◌+◌, ◌<◌, Bool, true, false, List, [], ◌∷◌, ◌++◌, length, take, get_or, Option, Some, None}
use Rattle.std.proofs.Common.{refl, ap, sym, ◌∙◌, subst, arith, eqb-true, eq-eqb, ◌⊎◌, inl, inr}
use Rattle.std.proofs.lemmas.Option.{same_Some}
use Rattle.std.specs.Prelude.{slice_get, ◌==◌, if◌then◌else◌}
use Rattle.mj_ask.specs.declared.noted.Noted.{Noted}
use Rattle.mj_explain.specs.Events.{began_after, began_behind, began_from, began_by}

-- ---- lists

-- one item more of a list
pub take_more : {A : Type 0} (xs : List A) (k : ℕ) (x : A) → slice_get xs k ≡ Some x → take (suc k) xs ≡ take k xs ++ x ∷ []
take_more [] k x is = cc
take_more (y ∷ xs) zero x is = ap (λ z. z ∷ []) (same_Some y x is)
take_more (y ∷ xs) (suc k) x is = ap (λ l. y ∷ l) (take_more xs k x is)

pub take_length : {A : Type 0} (xs : List A) (k : ℕ) (x : A) → slice_get xs k ≡ Some x → length (take k xs) ≡ k
take_length [] k x is = cc
take_length (y ∷ xs) zero x is = refl
take_length (y ∷ xs) (suc k) x is = ap suc (take_length xs k x is)

-- an item before the last one
pub get_front : {A : Type 0} (xs : List A) (x : A) (k : ℕ) → k < length xs → slice_get (xs ++ x ∷ []) k ≡ slice_get xs k
get_front [] x k lt = absurd (omega (arith, lt))
get_front (y ∷ xs) x zero lt = refl
get_front (y ∷ xs) x (suc k) lt = get_front xs x k (omega (arith, lt))

-- the last one
pub get_last : {A : Type 0} (xs : List A) (x : A) → slice_get (xs ++ x ∷ []) (length xs) ≡ Some x
get_last [] x = refl
get_last (y ∷ xs) x = get_last xs x

-- ---- one event more

began_more : (job place : ℕ) (began : Option ℕ) (es : List Noted) (e : Noted)
    → began_from job place began (es ++ e ∷ []) ≡ began_behind job (place + length es) (began_from job place began es) e
began_more job place began [] e = let same : place ≡ place + 0 = omega arith in ap (λ p. began_behind job p began e) same
began_more job place began (x ∷ es) e =
    let after : Option ℕ = began_behind job place began x in
    let same : suc place + length es ≡ place + suc (length es) = omega arith in
    began_more job (suc place) after es e ∙ ap (λ p. began_behind job p (began_from job (suc place) after es) e) same

-- where a transaction began behind the next event
pub began_next : (job place : ℕ) (es : List Noted) (e : Noted) → slice_get es place ≡ Some e
    → began_by job (take (place + 1) es) ≡ began_behind job place (began_by job (take place es)) e
began_next job place es e is =
    let more : place + 1 ≡ suc place = omega arith in
    let long : length (take place es) ≡ place = take_length es place e is in
    let same : 0 + length (take place es) ≡ place = omega (arith, long) in
    ap (λ n. began_by job (take n es)) more ∙ ap (began_by job) (take_more es place e is) ∙ began_more job 0 None (take place es) e
    ∙ ap (λ p. began_behind job p (began_by job (take place es)) e) same

-- what a table has of each job behind the next event
pub table_next : (old new : List (Option ℕ)) (job place : ℕ) (es : List Noted) (e : Noted) → e.job ≡ job → slice_get es place ≡ Some e
    → ((j : ℕ) → get_or old j None ≡ began_by j (take place es))
    → get_or new job None ≡ began_after place (get_or old job None) e.ask
    → ((j : ℕ) → (j ≡ job → ⊥) → get_or new j None ≡ get_or old j None)
    → (j : ℕ) → get_or new j None ≡ began_by j (take (place + 1) es)
table_next old new job place es e of is before own others j = by (e.job == j) refl
  where
    B : Option ℕ
    B = began_by j (take place es)

    by : (b : Bool) → (e.job == j) ≡ b → get_or new j None ≡ began_by j (take (place + 1) es)
    by true q =
        let at : job ≡ j = sym of ∙ eqb-true e.job j q in
        let here : get_or new j None ≡ began_after place (get_or old j None) e.ask
        = subst (λ n. get_or new n None ≡ began_after place (get_or old n None) e.ask) at own in
        here ∙ ap (λ o. began_after place o e.ask) (before j) ∙ sym (ap (λ b. if b then began_after place B e.ask else B) q) ∙ sym (began_next j place es e is)
    by false q =
        let apart : j ≡ job → ⊥ = λ h. (let yes : (e.job == j) ≡ true = eq-eqb e.job j (of ∙ sym h) in absurd cc) in
        others j apart ∙ before j ∙ sym (ap (λ b. if b then began_after place B e.ask else B) q) ∙ sym (began_next j place es e is)

pub less_or_same : (k n : ℕ) → k < n + 1 → (k < n) ⊎ (k ≡ n)
less_or_same zero zero lt = inr refl
less_or_same zero (suc n) lt = inl (omega arith)
less_or_same (suc k) zero lt = absurd (omega (arith, lt))
less_or_same (suc k) (suc n) lt = by (less_or_same k n (omega (arith, lt)))
  where
    by : (k < n) ⊎ (k ≡ n) → (suc k < suc n) ⊎ (suc k ≡ suc n)
    by (inl less) = inl (omega (arith, less))
    by (inr same) = inr (ap suc same)

-- what a list has of each event behind the next one
pub begins_next : (old new : List (Option ℕ)) (place : ℕ) (es : List Noted) (e : Noted) → slice_get es place ≡ Some e → length old ≡ place
    → ((k : ℕ) (f : Noted) → k < place → slice_get es k ≡ Some f → slice_get old k ≡ Some (began_by f.job (take k es)))
    → new ≡ old ++ began_by e.job (take place es) ∷ []
    → (k : ℕ) (f : Noted) → k < place + 1 → slice_get es k ≡ Some f → slice_get new k ≡ Some (began_by f.job (take k es))
begins_next old new place es e is long before grows k f lt there = by (less_or_same k place lt)
  where
    X : Option ℕ
    X = began_by e.job (take place es)

    by : (k < place) ⊎ (k ≡ place) → slice_get new k ≡ Some (began_by f.job (take k es))
    by (inl less) = ap (λ l. slice_get l k) grows ∙ get_front old X k (omega (arith, long, less)) ∙ before k f less there
    by (inr same) =
        let at : k ≡ length old = same ∙ sym long in
        let one : e ≡ f = same_Some e f (sym is ∙ ap (slice_get es) (sym same) ∙ there) in
        ap (λ l. slice_get l k) grows ∙ ap (slice_get (old ++ X ∷ [])) at ∙ get_last old X
        ∙ ap (λ n. Some (began_by e.job (take n es))) (sym same) ∙ ap (λ g. Some (began_by g.job (take k es))) one
