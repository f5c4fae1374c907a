-- Pieces that are put one behind the other, grouped as a text is.
use Rattle.std.proofs.Common.{◌≡◌, ℕ, List, [], ◌∷◌, ◌++◌, ap, sym, ◌∙◌, append_assoc}

-- two pieces, of which the first ends a line
pub line_end : (p j r : List ℕ) → (p ++ (j ++ 10 ∷ [])) ++ r ≡ (p ++ j) ++ 10 ∷ r
line_end p j r = ap (λ (xs : List ℕ). xs ++ r) (sym (append_assoc p j (10 ∷ []))) ∙ append_assoc (p ++ j) (10 ∷ []) r

-- a place, and what was asked there
pub asked_parts : (p j b x : List ℕ) → (((p ++ 32 ∷ []) ++ j) ++ b) ++ x ≡ p ++ 32 ∷ ((j ++ b) ++ x)
asked_parts p j b x =
    ap (λ (xs : List ℕ). (xs ++ b) ++ x) (append_assoc p (32 ∷ []) j) ∙ ap (λ (xs : List ℕ). xs ++ x) (append_assoc p (32 ∷ j) b)
    ∙ append_assoc p (32 ∷ (j ++ b)) x

-- what a lost update is told with
pub loss_parts : (p s o a b w : List ℕ)
    → (((((p ++ (s ++ 10 ∷ [])) ++ o) ++ a) ++ 46 ∷ 10 ∷ []) ++ b) ++ (w ++ 10 ∷ [])
    ≡ (p ++ s) ++ 10 ∷ ((o ++ a) ++ 46 ∷ 10 ∷ ((b ++ w) ++ 10 ∷ []))
loss_parts p s o a b w =
    let r : List ℕ = p ++ s in
    let q : List ℕ = o ++ a in
    let d : List ℕ = 46 ∷ 10 ∷ [] in
    let e : List ℕ = w ++ 10 ∷ [] in
    ap (λ (xs : List ℕ). (((xs ++ a) ++ d) ++ b) ++ e) (line_end p s o)
    ∙ ap (λ (xs : List ℕ). ((xs ++ d) ++ b) ++ e) (append_assoc r (10 ∷ o) a)
    ∙ ap (λ (xs : List ℕ). (xs ++ b) ++ e) (append_assoc r (10 ∷ q) d)
    ∙ ap (λ (xs : List ℕ). xs ++ e) (append_assoc r (10 ∷ (q ++ d)) b)
    ∙ append_assoc r (10 ∷ ((q ++ d) ++ b)) e
    ∙ ap (λ (xs : List ℕ). r ++ 10 ∷ (xs ++ e)) (append_assoc q d b)
    ∙ ap (λ (xs : List ℕ). r ++ 10 ∷ xs) (append_assoc q (46 ∷ 10 ∷ b) e)
    ∙ ap (λ (xs : List ℕ). r ++ 10 ∷ (q ++ 46 ∷ 10 ∷ xs)) (sym (append_assoc b w (10 ∷ [])))

-- why a commit clashed
pub why_parts : (p w r t a c : List ℕ)
    → ((((((p ++ w) ++ 46 ∷ 10 ∷ []) ++ r) ++ t) ++ a) ++ 46 ∷ 10 ∷ []) ++ c ≡ (p ++ w) ++ 46 ∷ 10 ∷ (((r ++ t) ++ a) ++ 46 ∷ 10 ∷ c)
why_parts p w r t a c =
    let h : List ℕ = p ++ w in
    let d : List ℕ = 46 ∷ 10 ∷ [] in
    ap (λ (xs : List ℕ). ((((xs ++ t) ++ a) ++ d) ++ c)) (append_assoc h d r)
    ∙ ap (λ (xs : List ℕ). ((xs ++ a) ++ d) ++ c) (append_assoc h (46 ∷ 10 ∷ r) t)
    ∙ ap (λ (xs : List ℕ). (xs ++ d) ++ c) (append_assoc h (46 ∷ 10 ∷ (r ++ t)) a)
    ∙ ap (λ (xs : List ℕ). xs ++ c) (append_assoc h (46 ∷ 10 ∷ ((r ++ t) ++ a)) d)
    ∙ append_assoc h (46 ∷ 10 ∷ (((r ++ t) ++ a) ++ d)) c
    ∙ ap (λ (xs : List ℕ). h ++ 46 ∷ 10 ∷ xs) (append_assoc ((r ++ t) ++ a) d c)
