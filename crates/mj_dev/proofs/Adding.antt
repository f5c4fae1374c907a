-- Devices are added to a pool many at a time.
use Rattle.std.proofs.Common.{◌≡◌, ℕ, zero, suc, ◌+◌, ◌<◌, List, [], ◌∷◌, Result, Ok, Err, refl, sym, ap, ◌∙◌, arith, get_or}
use Rattle.std.proofs.Math.ListN.{set}
use Rattle.std.specs.List.{insert}
use Rattle.std.specs.Ordering.{nat_cmp, match_ordering, ordering_reverse}
use Rattle.std.specs.declared.cmp.Ordering.{Ordering}
use Rattle.std.specs.declared.cmp.Ordering.TheVariants.{Less, Equal, Greater}
use Rattle.std.specs.Cmp.Lexicographic.{slice_cmp}
use Rattle.std.specs.Result.{OnOk, OnErr}
use Rattle.std.proofs.lemmas.Cmp.{nat_list_cmp_total}
use Rattle.std.proofs.lemmas.List.{set-get_or}
use Rattle.mj_dev.specs.Shelves.{Shelf, added, grown, new_shelf, one_more, shelf_of, more_by, IsThere, Belongs, AreRising}
use Rattle.mj_dev.specs.Pools.{with_more}
use Rattle.mj_dev.proofs.Shelves.{AreRising-added, added-one}

turned : (r : Ordering) → r ≡ ordering_reverse r → r ≡ Equal
turned Less e = cc
turned Equal e = refl
turned Greater e = cc

itself : (name : List ℕ) → slice_cmp nat_cmp name name ≡ Equal
itself name = turned _ (nat_list_cmp_total.antisymm name name)

-- the first shelf decides
at_first : (count : ℕ) (name : List ℕ) (s : Shelf) (ss : List Shelf) (r : Ordering) → slice_cmp nat_cmp s.name name ≡ r
    → grown count name (s ∷ ss) ≡ match_ordering r (s ∷ grown count name ss) (more_by count s ∷ ss) (shelf_of count name ∷ s ∷ ss)
at_first count name s ss r e = ap (λ r. match_ordering r (s ∷ grown count name ss) (more_by count s ∷ ss) (shelf_of count name ∷ s ∷ ss)) e

abbrev with_left : Shelf → List Shelf → ℕ → List Shelf
with_left s ss left = record s { left = left } ∷ ss

-- one device and then so many are one more at once
grown-added : (count : ℕ) (name : List ℕ) (shelves : List Shelf) → grown count name (added name shelves) ≡ grown (suc count) name shelves
grown-added count name [] = at_first count name (new_shelf name) [] Equal (itself name) ∙ ap (with_left (new_shelf name) []) (omega arith)
grown-added count name (s ∷ ss) =
    elim (slice_cmp nat_cmp s.name name) as (λ r. slice_cmp nat_cmp s.name name ≡ r
    → grown count name (match_ordering r (s ∷ added name ss) (one_more s ∷ ss) (new_shelf name ∷ s ∷ ss))
    ≡ match_ordering r (s ∷ grown (suc count) name ss) (more_by (suc count) s ∷ ss) (shelf_of (suc count) name ∷ s ∷ ss)) [
      | Less ↦ λ e. at_first count name s (added name ss) Less e ∙ ap (λ rest. s ∷ rest) (grown-added count name ss)
      | Equal ↦ λ e. at_first count name (one_more s) ss Equal e ∙ ap (with_left s ss) (omega arith)
      | Greater ↦ λ e. at_first count name (new_shelf name) (s ∷ ss) Equal (itself name) ∙ ap (with_left (new_shelf name) (s ∷ ss)) (omega arith)
    ] refl

-- one by one or all at once, where there is one at least
pub more-grown : (count : ℕ) (name : List ℕ) (shelves : List Shelf) → with_more (suc count) name shelves ≡ grown (suc count) name shelves
more-grown zero name shelves = added-one name shelves
more-grown (suc count) name shelves = more-grown count name (added name shelves) ∙ grown-added (suc count) name shelves

pub AreRising-more : (count : ℕ) (name : List ℕ) (shelves : List Shelf) → AreRising shelves → AreRising (with_more count name shelves)
AreRising-more zero name shelves rising = rising
AreRising-more (suc count) name shelves rising = AreRising-more count name (added name shelves) (AreRising-added name shelves rising)

pub more-at : (count : ℕ) (name : List ℕ) (shelves : List Shelf) → 0 < count → with_more count name shelves ≡ grown count name shelves
more-at zero name shelves some = absurd (omega (arith, some))
more-at (suc count) name shelves some = more-grown count name shelves

-- so many devices more of a name that is there, or none
pub with-there : {A B : Type 0} (r : Result A B) (count : ℕ) (name : List ℕ) (shelves : List Shelf) (i : ℕ) (shelf new : Shelf) → 0 < count → IsThere name shelves i
    → shelf ≡ get_or shelves i shelf → OnOk r (new ≡ more_by count shelf) → OnOk r (set shelves i new ≡ with_more count name shelves)
with-there (Ok a) count name shelves i shelf new some there at more =
    ap (λ (s : Shelf). set shelves i s) (more ∙ ap (more_by count) at) ∙ sym (there.changes_by count shelf) ∙ sym (more-at count name shelves some)
with-there (Err e) count name shelves i shelf new some there at more = tt

pub rising-there : {A B : Type 0} (r : Result A B) (count : ℕ) (name : List ℕ) (shelves : List Shelf) (i : ℕ) (shelf new : Shelf) → 0 < count → IsThere name shelves i
    → shelf ≡ get_or shelves i shelf → OnOk r (new ≡ more_by count shelf) → OnErr r (new ≡ shelf) → AreRising shelves → AreRising (set shelves i new)
rising-there (Ok a) count name shelves i shelf new some there at more kept rising =
    rw (ap (λ (s : Shelf). set shelves i s) (more ∙ ap (more_by count) at) ∙ sym (there.changes_by count shelf) ∙ sym (more-at count name shelves some))
    (AreRising-more count name shelves rising)
rising-there (Err e) count name shelves i shelf new some there at more kept rising =
    rw (ap (λ (s : Shelf). set shelves i s) (kept ∙ at) ∙ set-get_or shelves i shelf) rising

pub with-absent : (count : ℕ) (name : List ℕ) (shelves : List Shelf) (i : ℕ) → 0 < count → Belongs name shelves i → insert shelves i (shelf_of count name) ≡ with_more count name shelves
with-absent count name shelves i some absent = sym (absent.grows_by count) ∙ sym (more-at count name shelves some)
