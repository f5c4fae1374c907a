-- A pool is filled from the last name on.
use Rattle.std.specs.Prelude.{drop, slice_index_or}
use Rattle.std.specs.Ordering.{nat_cmp, match_ordering, ordering_reverse}
use Rattle.std.specs.Cmp.Lexicographic.{slice_cmp}
use Rattle.std.specs.declared.cmp.Ordering.{Ordering}
use Rattle.std.specs.declared.cmp.Ordering.TheVariants.{Less, Equal, Greater}
use Rattle.std.proofs.lemmas.Cmp.{nat_list_cmp_total}
use Rattle.std.proofs.Common.{Result, Ok, Err, OnOk, is_err, true, false, ◌≡◌, ℕ, zero, suc, ◌+◌, ◌-◌, ◌<◌, ◌≤◌, List, [], ◌∷◌, length, map, refl, sym, ap, ◌∙◌, subst, arith}
use Rattle.mj_dev.specs.Shelves.{Shelf, new_shelf, one_more, added, IsBelow, AreRising}
use Rattle.mj_replica.specs.Replicas.{counted_shelf}

-- what a result that is no error says
pub of_ok : {T E : Type 0} (r : Result T E) (P : Type 0) → OnOk r P → is_err r ≡ false → P
of_ok (Ok x) P said is = said
of_ok (Err e) P said is = absurd (let no : true ≡ false = is in cc)

-- a name is itself
self_equal : (o : Ordering) → o ≡ ordering_reverse o → o ≡ Equal
self_equal Less e = absurd (let no : Less ≡ Greater = e in cc)
self_equal Equal e = refl
self_equal Greater e = absurd (let no : Greater ≡ Less = e in cc)

-- so many devices of a name before others
abbrev pub after_adds : List ℕ → ℕ → List Shelf → List Shelf
after_adds name zero shelves = shelves
after_adds name (suc n) shelves = counted_shelf (name, suc n) ∷ shelves

-- one more
pub add_on : (name : List ℕ) (n : ℕ) (shelves : List Shelf) → IsBelow name shelves → added name (after_adds name n shelves) ≡ after_adds name (suc n) shelves
add_on name zero [] below = refl
add_on name zero (shelf ∷ shelves) below =
    ap (λ o. match_ordering o (shelf ∷ added name shelves) (one_more shelf ∷ shelves) (new_shelf name ∷ shelf ∷ shelves))
    (nat_list_cmp_total.antisymm shelf.name name ∙ ap ordering_reverse below)
add_on name (suc n) shelves below =
    let many : suc n + 1 ≡ suc (suc n) = omega arith in
    ap (λ o. match_ordering o (counted_shelf (name, suc n) ∷ added name shelves) (one_more (counted_shelf (name, suc n)) ∷ shelves) (new_shelf name ∷ counted_shelf (name, suc n) ∷ shelves))
    (self_equal (slice_cmp nat_cmp name name) (nat_list_cmp_total.antisymm name name))
    ∙ ap (λ (m : ℕ). counted_shelf (name, m) ∷ shelves) many

pub adds_are : (name : List ℕ) (n : ℕ) (shelves : List Shelf) → 1 ≤ n → after_adds name n shelves ≡ counted_shelf (name, n) ∷ shelves
adds_are name zero shelves some = absurd (omega (arith, some))
adds_are name (suc n) shelves some = refl

-- the names from a place on rise
rising_from : (shelves : List Shelf) → AreRising shelves → (k : ℕ) → AreRising (drop k shelves)
rising_from shelves rising zero = rising
rising_from [] rising (suc k) = rising
rising_from (shelf ∷ shelves) rising (suc k) = rising_from shelves rising.1 k

drop_on : (counts : List (List ℕ × ℕ)) (k : ℕ) (d : List ℕ × ℕ) → k < length counts
    → drop k (map counted_shelf counts) ≡ counted_shelf (slice_index_or counts k d) ∷ drop (suc k) (map counted_shelf counts)
drop_on [] k d within = absurd (omega (arith, within))
drop_on (count ∷ counts) zero d within = refl
drop_on (count ∷ counts) (suc k) d within = drop_on counts k d (omega (arith, within))

drop_all : (counts : List (List ℕ × ℕ)) → drop (length counts) (map counted_shelf counts) ≡ []
drop_all [] = refl
drop_all (count ∷ counts) = drop_all counts

module _ (counts : List (List ℕ × ℕ)) where
  -- what was added by so many names, from the last on
  abbrev pub so_far : ℕ → List Shelf
  so_far left = drop (length counts - left) (map counted_shelf counts)

  pub so_far_none : so_far 0 ≡ []
  so_far_none = let all : length counts - 0 ≡ length counts = omega arith in ap (λ n. drop n (map counted_shelf counts)) all ∙ drop_all counts

  pub so_far_all : (left : ℕ) → length counts ≤ left → so_far left ≡ map counted_shelf counts
  so_far_all left past = let none : length counts - left ≡ 0 = omega (arith, past) in ap (λ n. drop n (map counted_shelf counts)) none

  module _ (left : ℕ) (d : List ℕ × ℕ) (within : left < length counts) where
    abbrev k : ℕ
    k = length counts - 1 - left

    inside : k < length counts
    inside = omega (arith, within)

    is : so_far left ≡ drop (suc k) (map counted_shelf counts)
    is = let same : length counts - left ≡ suc (length counts - 1 - left) = omega (arith, within) in ap (λ n. drop n (map counted_shelf counts)) same

    -- the next name comes before them
    pub so_far_below : AreRising (map counted_shelf counts) → IsBelow (slice_index_or counts k d).0 (so_far left)
    so_far_below rising =
        let P : List Shelf → Type 0 = λ l. AreRising l in
        let Q : List Shelf → Type 0 = λ l. IsBelow (slice_index_or counts k d).0 l in
        subst Q (sym is) (subst P (drop_on counts k d inside) (rising_from (map counted_shelf counts) rising k)).0

    -- and with it there is one more
    pub so_far_on : counted_shelf (slice_index_or counts k d) ∷ so_far left ≡ so_far (left + 1)
    so_far_on =
        let same : length counts - 1 - left ≡ length counts - (left + 1) = omega arith in
        ap (λ l. counted_shelf (slice_index_or counts k d) ∷ l) is ∙ sym (drop_on counts k d inside) ∙ ap (λ n. drop n (map counted_shelf counts)) same
