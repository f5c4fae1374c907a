-- Devices that words name, one after the other.
use Rattle.std.proofs.Common.{Result, Ok, Err, is_err, is_ok, true, false, if◌then◌else◌, ◌≡◌, ℕ, ◌+◌, ◌<◌, List, [], ◌∷◌, ◌++◌, Option, Some, IfSome, length, get_or, take, sym, subst}
use Rattle.std.proofs.lemmas.List.{take_more}
use Rattle.std.specs.List.{AllZip}

added : {A B : Type 0} (R : A → B → Type 0) (xs : List A) (ys : List B) (x : A) (y : B) → AllZip R xs ys → R x y → AllZip R (xs ++ x ∷ []) (ys ++ y ∷ [])
added R [] [] x y h k = (k, tt)
added R [] (v ∷ ys) x y h k = absurd h
added R (q ∷ xs) [] x y h k = absurd h
added R (q ∷ xs) (v ∷ ys) x y h k = (h.0, added R xs ys x y h.1 k)

-- one word more, and what it says
pub one_more : {A B : Type 0} (R : A → B → Type 0) (xs : List A) (ys new : List B) (k : ℕ) (d : A) (y : B)
    → k < length xs → AllZip R (take k xs) ys → R (get_or xs k d) y → new ≡ ys ++ y ∷ [] → AllZip R (take (k + 1) xs) new
one_more R xs ys new k d y less before says made =
    subst (λ l. AllZip R l new) (sym (take_more xs k d less))
    (subst (AllZip R (take k xs ++ get_or xs k d ∷ [])) (sym made) (added R (take k xs) ys (get_or xs k d) y before says))

-- what is said of what there is
pub of_some : {X : Type 0} (o : Option X) (P : X → Type 0) (x : X) → IfSome o P → o ≡ Some x → P x
of_some o P x said is = subst (λ o. IfSome o P) is said

-- what a list is to which something was put
pub pushed : {T E X : Type 0} (r : Result T E) (new more old : List X) → new ≡ (if is_ok r then more else old) → is_err r ≡ false → new ≡ more
pushed (Ok x) new more old said is = said
pushed (Err e) new more old said is = absurd (let no : true ≡ false = is in cc)
