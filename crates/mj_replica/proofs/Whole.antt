-- A pool to which devices were only added: of none of its names one was taken.
use Rattle.std.specs.Prelude.{All, slice_index_or}
use Rattle.std.specs.Ordering.{nat_cmp, match_ordering}
use Rattle.std.specs.Cmp.Lexicographic.{slice_cmp}
use Rattle.std.specs.declared.cmp.Ordering.{Ordering}
use Rattle.std.specs.declared.cmp.Ordering.TheVariants.{Less, Equal, Greater}
use Rattle.std.proofs.Common.{◌≡◌, ℕ, zero, suc, ◌+◌, ◌<◌, ◌≤◌, List, [], ◌∷◌, length, map, refl, sym, ap, ◌∙◌, arith}
use Rattle.mj_dev.specs.Shelves.{Shelf, new_shelf, one_more, added, count_of}
use Rattle.mj_replica.specs.Replicas.{counted_shelf, AreWhole}

-- so it is with one device more
pub added_whole : (name : List ℕ) (shelves : List Shelf) → AreWhole shelves → AreWhole (added name shelves)
added_whole name [] whole = (omega arith, refl, tt)
added_whole name (shelf ∷ shelves) whole = by (added_whole name shelves whole.2) (slice_cmp nat_cmp shelf.name name) where
  by : AreWhole (added name shelves) → (o : Ordering) → AreWhole (match_ordering o (shelf ∷ added name shelves) (one_more shelf ∷ shelves) (new_shelf name ∷ shelf ∷ shelves))
  by rest Less = (whole.0, whole.1, rest)
  by rest Equal = ((let some = whole.0 in omega (arith, some)), whole.1, whole.2)
  by rest Greater = (omega arith, refl, whole)

-- its counts say all of it
pub counts_say : (shelves : List Shelf) → AreWhole shelves → map counted_shelf (map count_of shelves) ≡ shelves
counts_say [] whole = refl
counts_say (shelf ∷ shelves) whole = λ i. its i ∷ counts_say shelves whole.2 i where
  its : counted_shelf (count_of shelf) ≡ shelf
  its =
      let none = whole.1 in
      let left : shelf.left + shelf.taken ≡ shelf.left = omega (arith, none) in
      ap (λ (n : ℕ). record { name = shelf.name; left = n; taken = 0 }) left ∙ ap (λ (n : ℕ). record { name = shelf.name; left = shelf.left; taken = n }) (sym none)

-- and each name has one
pub counts_some : (shelves : List Shelf) → AreWhole shelves → All (λ (count : List ℕ × ℕ). 1 ≤ count.1) (map count_of shelves)
counts_some [] whole = λ k d within. absurd (omega (arith, within))
counts_some (shelf ∷ shelves) whole = λ k d within. by (counts_some shelves whole.2) k d within where
  by : All (λ (count : List ℕ × ℕ). 1 ≤ count.1) (map count_of shelves) → (k : ℕ) (d : List ℕ × ℕ) → k < length (map count_of (shelf ∷ shelves))
      → 1 ≤ (slice_index_or (map count_of (shelf ∷ shelves)) k d).1
  by rest zero d within = (let some = whole.0 in omega (arith, some))
  by rest (suc k) d within = rest k d (omega (arith, within))
