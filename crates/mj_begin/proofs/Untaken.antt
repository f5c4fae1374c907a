-- A pool to which devices were only added: of none of its names one was taken.
use Rattle.std.specs.Ordering.{nat_cmp, match_ordering}
use Rattle.std.specs.Cmp.Lexicographic.{slice_cmp}
use Rattle.std.specs.declared.cmp.Ordering.{Ordering}
use Rattle.std.specs.declared.cmp.Ordering.TheVariants.{Less, Equal, Greater}
use Rattle.std.proofs.Common.{◌≡◌, ℕ, zero, suc, List, [], ◌∷◌, refl, sym, subst, arith}
use Rattle.mj_dev.specs.Shelves.{Shelf, new_shelf, one_more, added, principal}
use Rattle.mj_files.specs.Named.{with_principals, with_devices}
use Rattle.mj_replica.specs.Replicas.{AreWhole}

-- with one device more
pub one_added : (name : List ℕ) (shelves : List Shelf) → AreWhole shelves → AreWhole (added name shelves)
one_added name [] whole = (omega arith, refl, tt)
one_added name (shelf ∷ shelves) whole = by (one_added name shelves whole.2) (slice_cmp nat_cmp shelf.name name)
  where
    by : AreWhole (added name shelves) → (o : Ordering) → AreWhole (match_ordering o (shelf ∷ added name shelves) (one_more shelf ∷ shelves) (new_shelf name ∷ shelf ∷ shelves))
    by rest Less = (whole.0, whole.1, rest)
    by rest Equal = ((let some = whole.0 in omega (arith, some)), whole.1, whole.2)
    by rest Greater = (omega arith, refl, whole)

principals_added : (n : ℕ) → AreWhole (with_principals n)
principals_added zero = tt
principals_added (suc n) = one_added principal (with_principals n) (principals_added n)

devices_added : (names : List (List ℕ)) (pool : List Shelf) → AreWhole pool → AreWhole (with_devices names pool)
devices_added [] pool whole = whole
devices_added (name ∷ names) pool whole = devices_added names (added name pool) (one_added name pool whole)

-- a run's pool
pub untaken : (names : List (List ℕ)) (n : ℕ) (pool : List Shelf) → pool ≡ with_devices names (with_principals n) → AreWhole pool
untaken names n pool e = subst AreWhole (sym e) (devices_added names (with_principals n) (principals_added n))
