-- One more of what is read in order: its name is that of its place.
use Rattle.std.proofs.Common.{◌≡◌, ℕ, ◌+◌, ◌<◌, List, [], ◌∷◌, ◌++◌, length, get_or, map, take, sym, ap, ◌∙◌}
use Rattle.std.proofs.lemmas.List.{take_more, map-append}

pub one_named : {P R : Type 0} (path_name : P → List ℕ) (name_of : R → List ℕ) (paths : List P) (routines : List R) (k : ℕ) (d : P) (r : R) → k < length paths
    → map name_of routines ≡ map path_name (take k paths) → name_of r ≡ path_name (get_or paths k d)
    → map name_of (routines ++ r ∷ []) ≡ map path_name (take (k + 1) paths)
one_named path_name name_of paths routines k d r less before named =
    map-append name_of routines (r ∷ []) ∙ ap (λ ns. ns ++ name_of r ∷ []) before ∙ ap (λ n. map path_name (take k paths) ++ n ∷ []) named
    ∙ sym (ap (map path_name) (take_more paths k d less) ∙ map-append path_name (take k paths) (get_or paths k d ∷ []))
