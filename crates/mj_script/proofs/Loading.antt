-- Routines that are read, one after the other.
use Rattle.std.specs.Prelude.{slice_get, IfErr}
use Rattle.std.specs.Result.{IsErrAnd}
use Rattle.std.specs.List.{AllZip}
use Rattle.std.proofs.Common.{◌≡◌, ℕ, zero, suc, ◌+◌, ◌<◌, List, [], ◌∷◌, ◌++◌, length, map, get_or, take, Option, Some, None, Result, Ok, Err, refl, sym, ap, ◌∙◌, subst, arith}
use Rattle.std.proofs.lemmas.List.{take_more}
use Rattle.mj_ast.specs.declared.routine.Routine.{Routine}
use Rattle.mj_load.specs.Image.{names_of}
use Rattle.mj_rou.specs.Laws.{IsReadOrRefused}
use Rattle.mj_script.specs.declared.script.Unread.{Unread}
use Rattle.mj_script.specs.declared.script.Unread.TheVariants as unread
use Rattle.mj_script.specs.Scripts.{IsReadFrom, CanBeLoaded, IsSourceUnread, IsUnread}

added : {A B : Type 0} (R : A → B → Type 0) (xs : List A) (ys : List B) (x : A) (y : B) → AllZip R xs ys → R x y → AllZip R (xs ++ x ∷ []) (ys ++ y ∷ [])
added R [] [] x y h k = (k, tt)
added R [] (v ∷ ys) x y h k = absurd h
added R (q ∷ xs) [] x y h k = absurd h
added R (q ∷ xs) (v ∷ ys) x y h k = (h.0, added R xs ys x y h.1 k)

-- one routine more, of the source at its place
pub one_more : {A B : Type 0} (R : A → B → Type 0) (xs : List A) (ys new : List B) (k : ℕ) (d : A) (y : B)
    → k < length xs → AllZip R (take k xs) ys → R (get_or xs k d) y → new ≡ ys ++ y ∷ [] → AllZip R (take (k + 1) xs) new
one_more R xs ys new k d y less before says made =
    subst (λ l. AllZip R l new) (sym (take_more xs k d less))
    (subst (AllZip R (take k xs ++ get_or xs k d ∷ [])) (sym made) (added R (take k xs) ys (get_or xs k d) y before says))

-- of what is made of each
pub of_each : {A B C : Type 0} (f : A → B) (R : B → C → Type 0) (xs : List A) (ys : List C) → AllZip (λ x y. R (f x) y) xs ys → AllZip R (map f xs) ys
of_each f R [] [] h = tt
of_each f R [] (y ∷ ys) h = absurd h
of_each f R (x ∷ xs) [] h = absurd h
of_each f R (x ∷ xs) (y ∷ ys) h = (h.0, of_each f R xs ys h.1)

-- what stands at a place
pub there : {A B : Type 0} (f : A → B) (xs : List A) (k : ℕ) (d : A) → k < length xs → slice_get (map f xs) k ≡ Some (f (get_or xs k d))
there f [] k d less = absurd (omega (arith, less))
there f (x ∷ xs) zero d less = refl
there f (x ∷ xs) (suc k) d less = there f xs k d (omega (arith, less))

-- the names are those of the sources
pub names_same : (sources : List (List ℕ × List ℕ)) (routines : List Routine) → AllZip IsReadFrom sources routines
    → names_of routines ≡ map (λ source. source.0) sources
names_same [] [] h = refl
names_same [] (r ∷ rs) h = absurd h
names_same (s ∷ ss) [] h = absurd h
names_same (s ∷ ss) (r ∷ rs) h = ap (λ n. n ∷ names_of rs) h.0.0 ∙ ap (λ ns. s.0 ∷ ns) (names_same ss rs h.1)

-- why the source at a place isn't read, nothing is loaded
pub unread_at : (sources : List (List ℕ × List ℕ)) (at : ℕ) (source : List ℕ × List ℕ) (why : Unread) → slice_get sources at ≡ Some source
    → IsSourceUnread source why → IsUnread sources why
unread_at sources at source (unread.Routine refusal) is refused = (at, source, is, refused)
unread_at sources at source (unread.Twice name) is refused = absurd refused
unread_at sources at source unread.Memory is refused = tt

-- and so where this is handed on
pub unread_told : {T : Type 0} (sources : List (List ℕ × List ℕ)) (result : Result T Unread) (why : Unread) → IsErrAnd result (λ x. x ≡ why)
    → IsUnread sources why → IfErr result (IsUnread sources)
unread_told sources (Ok y) why same unread = tt
unread_told sources (Err y) why same unread = let P : Unread → Type 0 = λ x. IsUnread sources x in subst P (sym same) unread

-- each source has its routine
read_at : (sources : List (List ℕ × List ℕ)) (routines : List Routine) (at : ℕ) (source : List ℕ × List ℕ) → AllZip IsReadFrom sources routines
    → slice_get sources at ≡ Some source → (r : Routine) × IsReadFrom source r
read_at [] routines at source h is = cc
read_at (s ∷ ss) [] at source h is = absurd h
read_at (s ∷ ss) (r ∷ rs) zero source h is =
    let P : Option (List ℕ × List ℕ) → Type 0 = λ o. elim o [ None ↦ Unit {0} | Some x ↦ IsReadFrom x r ] in
    (r, subst P is h.0)
read_at (s ∷ ss) (r ∷ rs) (suc at) source h is = read_at ss rs at source h.1 is

-- what can be loaded is unread for want of memory alone
pub for_memory : IsReadOrRefused → (sources : List (List ℕ × List ℕ)) (why : Unread) → CanBeLoaded sources → IsUnread sources why → (why ≡ unread.Memory → ⊥) → ⊥
for_memory law sources (unread.Routine refusal) can (at, source, is, refused) none =
    let found = read_at sources can.0.0 at source can.0.1 is in
    refused.1 (law source.0 source.1 _ refusal found.1.1 found.1.2 refused.0)
for_memory law sources (unread.Twice name) can is none = let no : None ≡ Some name = sym can.1 ∙ is in cc
for_memory law sources unread.Memory can is none = none refl

-- where no name is told, none is repeated
pub none_twice : (names : Option (List ℕ)) → ((name : List ℕ) → names ≡ Some name → ⊥) → names ≡ None
none_twice None never = refl
none_twice (Some name) never = absurd (never name refl)
