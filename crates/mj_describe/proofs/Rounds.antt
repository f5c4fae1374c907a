-- Texts of a list that are put one behind the other.
use Rattle.std.proofs.Common.{◌≡◌, ℕ, suc, ◌+◌, ◌<◌, List, [], ◌∷◌, ◌++◌, length, get_or, drop, map, Option, ap, sym, ◌∙◌, append_assoc, drop-cons, arith}
use Rattle.std.specs.Prelude.{slice_get}
use Rattle.mj_explain.specs.declared.cycles.Wait.{Wait}
use Rattle.mj_explain.specs.Waiting.{Asked, Hold}
use Rattle.mj_describe.specs.Words.{Shown, Standing, holds_text, wait_text, round_text, apart}

-- what is left begins with the next
pub next_left : {A : Type 0} (xs : List A) (i : ℕ) (d : A) → i < length xs → drop i xs ≡ get_or xs i d ∷ drop (i + 1) xs
next_left xs i d within =
    let more : suc i ≡ i + 1 = omega arith in
    drop-cons xs i d within ∙ ap (λ (n : ℕ). get_or xs i d ∷ drop n xs) more

-- one job more of a round
pub round_on : (s : Shown) (t : Standing) (waits : List Wait) (i : ℕ) (d : Wait) (whole old mid new : List ℕ) (a : Option Asked) (hs : List Hold)
    (v : List Asked) → v ≡ t.asked
    → i < length waits → old ++ round_text s t (drop i waits) ≡ whole → a ≡ slice_get v (get_or waits i d).ask → hs ≡ t.holds
    → mid ≡ old ++ holds_text s a hs → new ≡ mid ++ wait_text t (get_or waits i d) → new ++ round_text s t (drop (i + 1) waits) ≡ whole
round_on s t waits i d whole old mid new a hs v same within was asks held first second =
    let w : Wait = get_or waits i d in
    let rest : List ℕ = round_text s t (drop (i + 1) waits) in
    let part : List ℕ = holds_text s (slice_get t.asked w.ask) t.holds in
    let holds : mid ≡ old ++ part = first ∙ (λ j. old ++ holds_text s ((asks ∙ ap (λ (xs : List Asked). slice_get xs w.ask) same) j) (held j)) in
    let both : new ++ rest ≡ ((old ++ part) ++ wait_text t w) ++ rest =
    ap (λ (xs : List ℕ). xs ++ rest) (second ∙ ap (λ (xs : List ℕ). xs ++ wait_text t w) holds) in
    let regrouped : ((old ++ part) ++ wait_text t w) ++ rest ≡ old ++ ((part ++ wait_text t w) ++ rest) = simp append_assoc in
    both ∙ regrouped ∙ ap (λ (ws : List Wait). old ++ round_text s t ws) (sym (next_left waits i d within)) ∙ was

-- one text more, with an empty line before it
pub apart_on : {A B : Type 0} (text : B → List ℕ) (f : A → B) (ds : List A) (i : ℕ) (x : A) (whole old mid new : List ℕ) (y : B) → i < length ds
    → x ≡ get_or ds i x → old ++ apart text (map f (drop i ds)) ≡ whole → mid ≡ old ++ 10 ∷ [] → y ≡ f x → new ≡ mid ++ text y
    → new ++ apart text (map f (drop (i + 1) ds)) ≡ whole
apart_on text f ds i x whole old mid new y within is was line same second =
    let rest : List ℕ = apart text (map f (drop (i + 1) ds)) in
    let cut : drop i ds ≡ x ∷ drop (i + 1) ds = next_left ds i x within ∙ ap (λ z. z ∷ drop (i + 1) ds) (sym is) in
    let both : new ++ rest ≡ ((old ++ 10 ∷ []) ++ text (f x)) ++ rest =
    ap (λ (xs : List ℕ). xs ++ rest) (second ∙ (λ j. line j ++ text (same j))) in
    let regrouped : ((old ++ 10 ∷ []) ++ text (f x)) ++ rest ≡ old ++ 10 ∷ (text (f x) ++ rest) = simp append_assoc in
    both ∙ regrouped ∙ ap (λ zs. old ++ apart text (map f zs)) (sym cut) ∙ was

-- and where nothing is to be made of the items
pub apart_next : {A : Type 0} (text : A → List ℕ) (ds : List A) (i : ℕ) (x : A) (whole old mid new : List ℕ) → i < length ds → x ≡ get_or ds i x
    → old ++ apart text (drop i ds) ≡ whole → mid ≡ old ++ 10 ∷ [] → new ≡ mid ++ text x → new ++ apart text (drop (i + 1) ds) ≡ whole
apart_next text ds i x whole old mid new within is was line second =
    let rest : List ℕ = apart text (drop (i + 1) ds) in
    let cut : drop i ds ≡ x ∷ drop (i + 1) ds = next_left ds i x within ∙ ap (λ z. z ∷ drop (i + 1) ds) (sym is) in
    let both : new ++ rest ≡ ((old ++ 10 ∷ []) ++ text x) ++ rest = ap (λ (xs : List ℕ). xs ++ rest) (second ∙ ap (λ (xs : List ℕ). xs ++ text x) line) in
    let regrouped : ((old ++ 10 ∷ []) ++ text x) ++ rest ≡ old ++ 10 ∷ (text x ++ rest) = simp append_assoc in
    both ∙ regrouped ∙ ap (λ zs. old ++ apart text zs) (sym cut) ∙ was
