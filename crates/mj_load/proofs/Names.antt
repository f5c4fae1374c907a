-- The first routine that has the name of an earlier one.
use Rattle.std.proofs.Common.{◌≡◌, ℕ, suc, ◌+◌, ◌<◌, List, [], ◌∷◌, ◌++◌, Bool, true, false, Option, Some, length, get_or, take, drop, refl, sym, ap, ◌∙◌, arith}
use Rattle.std.proofs.Math.Seq.{drop-cons}
use Rattle.std.proofs.lemmas.List.{take_more, get_or_default, map-append}
use Rattle.std.specs.Prelude.{if◌then◌else◌, ◌||◌}
use Rattle.std.specs.List.{list_any}
use Rattle.std.specs.Str.{bytes_eq}
use Rattle.mj_ast.specs.declared.routine.Routine.{Routine}
use Rattle.mj_load.specs.Image.{repeated, names_of}

abbrev has_name : List ℕ → List Routine → Bool
has_name name routines = list_any (λ e. bytes_eq e.name name) routines

among_names : (name : List ℕ) (routines : List Routine) → list_any (λ e. bytes_eq e name) (names_of routines) ≡ has_name name routines
among_names name [] = refl
among_names name (r ∷ routines) = ap (λ t. bytes_eq r.name name || t) (among_names name routines)

abbrev from : ℕ → List Routine → Option (List ℕ)
from k rs = repeated (names_of (take k rs)) (names_of (drop k rs))

-- one routine further
further : (rs : List Routine) (k : ℕ) (r : Routine) → k < length rs → r ≡ get_or rs k r → from k rs ≡ (if has_name r.name (take k rs) then Some r.name else from (k + 1) rs)
further rs k r lt e =
    let next : suc k ≡ k + 1 = omega arith in
    let later = names_of (drop (k + 1) rs) in
    let here : drop k rs ≡ r ∷ drop (k + 1) rs = drop-cons rs k r lt ∙ ap (λ x. x ∷ drop (suc k) rs) (sym e) ∙ ap (λ n. r ∷ drop n rs) next in
    let front : names_of (take k rs) ++ r.name ∷ [] ≡ names_of (take (k + 1) rs) =
    sym (map-append (λ q. q.name) (take k rs) (r ∷ [])) ∙ ap names_of (ap (λ x. take k rs ++ x ∷ []) e ∙ sym (take_more rs k r lt)) in
    ap (λ l. repeated (names_of (take k rs)) (names_of l)) here
    ∙ ap (λ t. if t then Some r.name else repeated (names_of (take k rs) ++ r.name ∷ []) later) (among_names r.name (take k rs))
    ∙ ap (λ l. if has_name r.name (take k rs) then Some r.name else repeated l later) front

pub is_second : (rs : List Routine) (k : ℕ) (r d : Routine)
    → k < length rs → r ≡ get_or rs k r → from k rs ≡ repeated [] (names_of rs) → has_name r.name (take k rs) ≡ true → repeated [] (names_of rs) ≡ Some (get_or rs k d).name
is_second rs k r d lt e so_far known =
    sym so_far ∙ further rs k r lt e ∙ ap (λ t. if t then Some r.name else from (k + 1) rs) known ∙ ap (λ x. Some x.name) (e ∙ get_or_default rs k r d lt)

pub goes_on : (rs : List Routine) (k : ℕ) (r : Routine)
    → k < length rs → r ≡ get_or rs k r → from k rs ≡ repeated [] (names_of rs) → has_name r.name (take k rs) ≡ false → from (k + 1) rs ≡ repeated [] (names_of rs)
goes_on rs k r lt e so_far unknown = sym (ap (λ t. if t then Some r.name else from (k + 1) rs) unknown) ∙ sym (further rs k r lt e) ∙ so_far
