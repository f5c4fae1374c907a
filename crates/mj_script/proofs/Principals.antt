-- A run's pool has a principal device for each of the jobs that there may be.
use Rattle.std.specs.Prelude.{All}
use Rattle.std.specs.Str.{bytes_eq}
use Rattle.std.specs.List.{find}
use Rattle.std.specs.Ordering.{nat_cmp, is_eq, match_ordering}
use Rattle.std.specs.Cmp.Lexicographic.{slice_cmp, bytes_decides}
use Rattle.std.specs.declared.cmp.Ordering.{Ordering}
use Rattle.std.specs.declared.cmp.Ordering.TheVariants.{Less, Equal, Greater}
use Rattle.std.proofs.Common.{◌≡◌, ◌≢◌, ◌∙◌, ◌≤◌, ℕ, zero, suc, Bool, true, false, cond, List, [], ◌∷◌, length, Option, Some, None, refl, sym, ap, subst, arith}
use Rattle.std.proofs.lemmas.Map.Text.{is_eq-slice_cmp}
use Rattle.mj_ask.specs.Started.{Started}
use Rattle.mj_dev.specs.Shelves.{Shelf, is_named, new_shelf, one_more, added, left_of, principal}
use Rattle.mj_files.specs.Named.{with_principals, with_devices}
use Rattle.mj_jobs.specs.Rows.{rows_limit}

-- ---- principal devices alone

-- a shelf of so many
abbrev row : ℕ → List Shelf
row n = (record { name = principal; left = n; taken = 0 }) ∷ []

are_row : (n : ℕ) → with_principals (suc n) ≡ row (suc n)
are_row zero = refl
are_row (suc n) = ap (added principal) (are_row n) ∙ ap row (omega arith)

principals_left : (n : ℕ) → left_of principal (with_principals n) ≡ n
principals_left zero = refl
principals_left (suc n) = ap (left_of principal) (are_row n)

-- ---- and devices of other names

abbrev left_in : Option Shelf → ℕ
left_in o = elim o [ None ↦ 0 | Some shelf ↦ shelf.left ]

left_behind : (name : List ℕ) (s : Shelf) (ss : List Shelf) → bytes_eq s.name name ≡ false → left_of name (s ∷ ss) ≡ left_of name ss
left_behind name s ss e = ap (λ b. left_in (cond b (Some s) (find (is_named name) ss))) e

same : (a b : List ℕ) (r : Ordering) → slice_cmp nat_cmp a b ≡ r → bytes_eq a b ≡ is_eq r
same a b r e = sym (is_eq-slice_cmp a b) ∙ ap is_eq e

apart : (a b : List ℕ) → a ≢ b → bytes_eq a b ≡ false
apart a b other = by (bytes_eq a b) refl
  where
    by : (r : Bool) → bytes_eq a b ≡ r → bytes_eq a b ≡ false
    by true e = absurd (other ((bytes_decides a b).0 e))
    by false e = e

module _ (name other : List ℕ) (is : bytes_eq other name ≡ false) where
  skipped : (s : Shelf) (b : Bool) (x y : Option Shelf) → left_in x ≡ left_in y → left_in (cond b (Some s) x) ≡ left_in (cond b (Some s) y)
  skipped s true x y e = refl
  skipped s false x y e = e

  kept_by : (s : Shelf) (ss : List Shelf) (r : Ordering) → slice_cmp nat_cmp s.name other ≡ r → left_of name (added other ss) ≡ left_of name ss
      → left_of name (match_ordering r (s ∷ added other ss) (one_more s ∷ ss) (new_shelf other ∷ s ∷ ss)) ≡ left_of name (s ∷ ss)
  kept_by s ss Less e rec = skipped s (bytes_eq s.name name) (find (is_named name) (added other ss)) (find (is_named name) ss) rec
  kept_by s ss Equal e rec =
      let equal = (bytes_decides s.name other).0 (same s.name other Equal e) in
      let apart : bytes_eq s.name name ≡ false = ap (λ n. bytes_eq n name) equal ∙ is in
      left_behind name (one_more s) ss apart ∙ sym (left_behind name s ss apart)
  kept_by s ss Greater e rec = left_behind name (new_shelf other) (s ∷ ss) is

  kept : (ss : List Shelf) → left_of name (added other ss) ≡ left_of name ss
  kept [] = left_behind name (new_shelf other) [] is
  kept (s ∷ ss) = kept_by s ss (slice_cmp nat_cmp s.name other) refl (kept ss)

kept_all : (names : List (List ℕ)) (pool : List Shelf) → All (λ name. name ≢ principal) names → left_of principal (with_devices names pool) ≡ left_of principal pool
kept_all [] pool are = refl
kept_all (name ∷ names) pool are =
    let later : All (λ name. name ≢ principal) names = λ k d less. are (suc k) d (omega (arith, less)) in
    kept_all names (added name pool) later ∙ kept principal name (apart name principal (are 0 name (omega arith))) pool

-- as many starts as there may be jobs find one each
pub enough : (names : List (List ℕ)) (pool : List Shelf) (starts : List Started) → All (λ name. name ≢ principal) names
    → pool ≡ with_devices names (with_principals rows_limit) → length starts ≤ rows_limit → length starts ≤ left_of principal pool
enough names pool starts are is few =
    let left : left_of principal pool ≡ rows_limit =
    ap (left_of principal) is ∙ kept_all names (with_principals rows_limit) are ∙ principals_left rows_limit in
    subst (λ n. length starts ≤ n) (sym left) few
