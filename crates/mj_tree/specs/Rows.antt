-- The children of a node: those of a row, whose numbers follow one another, and then the others.
use Rattle.std.specs.Prelude.{◌≡◌, ℕ, ◌+◌, ◌<◌, ℤ, pos, ◌+ℤ◌, ◌≤ℤ◌, Bool, true, false, not, List, [], ◌∷◌, ◌++◌, length, slice_index_or, Option, Some, None, Result, OnOk, OnErr, Box, T}
use denote.Ref.{Bor}
use Rattle.std.specs.Global.{Global}
use Rattle.std.specs.declared.cmp.Ordering.{Ordering}
use Rattle.std.specs.declared.cmp.Ordering.TheVariants.{Greater}
use Rattle.std.specs.Ordering.{is_lt}
use Rattle.std.specs.List.{filter}
use Rattle.std.specs.FinMap.{is_sorted}
use Rattle.std.specs.Map.{lookup}
use Rattle.std.specs.Map.Iter.{TakesFirst, TakesLast, deref_pair}
use Rattle.std.specs.BTreeMap.{is_at, insert_entry}
use Rattle.mj_num.specs.Number.{number_of, is_canonic}
use Rattle.mj_subs.specs.Collation.{subscript_cmp}
use Rattle.mj_store.specs.Nodes.{is_empty}
use Rattle.mj_store.specs.Questions.{Subtree}
use Rattle.mj_tree.specs.Nest.{AreFilled}
use Rattle.mj_tree.specs.declared.children.Children.{Children}

-- a subscript is the canonic text of a number
abbrev pub IsNumber : List ℕ → ℤ → Type 0
IsNumber s n = (is_canonic s ≡ true) × (number_of s ≡ n)

module _ {X : Type 0} where
  -- these subscripts are numbers that follow one another, from z on
  abbrev pub AreNumbers : ℤ → List (List ℕ × X) → Type 0
  AreNumbers z [] = Unit {0}
  AreNumbers z (e ∷ es) = IsNumber e.0 z × AreNumbers (z +ℤ pos 1) es

  -- these subscripts are numbers that follow one another
  abbrev pub IsRow : List (List ℕ × X) → Type 0
  IsRow es = (z : ℤ) × AreNumbers z es

  -- the place of a number in a row, if it has one
  abbrev pub IsPlace : ℤ → List (List ℕ × X) → Option ℕ → Type 0
  IsPlace n es None = (s : List ℕ) → IsNumber s n → lookup (is_at (subscript_cmp s)) es ≡ None
  IsPlace n es (Some at) = (at < length es) × ((s : List ℕ) → IsNumber s n → (d : List ℕ × X) → (slice_index_or es at d).0 ≡ s)

  -- the place of a subscript in a row, if it has one
  abbrev pub IsPlaceOf : List ℕ → List (List ℕ × X) → Option ℕ → Type 0
  IsPlaceOf s es None = lookup (is_at (subscript_cmp s)) es ≡ None
  IsPlaceOf s es (Some at) = (at < length es) × ((d : List ℕ × X) → (slice_index_or es at d).0 ≡ s)

  -- behind a row and so many numbers more comes n
  abbrev pub IsEnd : List (List ℕ × X) → ℕ → ℤ → Type 0
  IsEnd [] gap n = gap ≡ 0
  IsEnd (e ∷ es) gap n = n ≡ number_of e.0 +ℤ pos (length (e ∷ es) + gap)

  -- n comes behind a row
  abbrev pub IsPast : ℤ → List (List ℕ × X) → Type 0
  IsPast n [] = Unit {0}
  IsPast n (e ∷ es) = (number_of e.0 +ℤ pos (length (e ∷ es))) ≤ℤ n

  -- before a row and so many numbers more comes n
  abbrev pub IsAhead : List (List ℕ × X) → ℕ → ℤ → Type 0
  IsAhead [] gap n = ⊥
  IsAhead (e ∷ es) gap n = number_of e.0 ≡ n +ℤ pos (gap + 1)

  -- whether a subscript stands before the first of a row
  abbrev pub is_ahead : List ℕ → List (List ℕ × X) → Bool
  is_ahead s [] = false
  is_ahead s (e ∷ es) = is_lt (subscript_cmp s e.0)

module _ {K X : Type 0} where
  -- r shows the first of these, if there is one
  abbrev pub IsFirst : List (K × X) → Option (Bor K × Bor X) → Type 0
  IsFirst es r = (t : List (K × X)) × TakesFirst deref_pair es r t

  -- r shows the last of these, if there is one
  abbrev pub IsLast : List (K × X) → Option (Bor K × Bor X) → Type 0
  IsLast es r = (t : List (K × X)) × TakesLast deref_pair es r t

module _ {K X : Type 0} (R : K → K → Ordering) (s : K) where
  -- the children whose subscripts come before s
  abbrev pub earlier : List (K × X) → List (K × X)
  earlier ks = filter (λ k. is_lt (R k.0 s)) ks

  -- all of these come before s
  abbrev pub AllBefore : List (K × X) → Type 0
  AllBefore [] = Unit {0}
  AllBefore (k ∷ ks) = (R s k.0 ≡ Greater) × AllBefore ks

module _ {K A : Type 0} where
  -- those of some places that hold something
  abbrev pub live : List (K × List A) → List (K × List A)
  live ks = filter (λ k. not (is_empty k.1)) ks

  -- the first place, if there is one, holds something
  abbrev pub IsTrimmed : List (K × List A) → Type 0
  IsTrimmed [] = Unit {0}
  IsTrimmed (k ∷ ks) = 0 < length k.1

-- a row, and others behind it, of which none is without a node
pub record IsOrdered (row others : List (List ℕ × Subtree)) : Type 0 where
  pub is_row : IsRow row
  pub rises : T (is_sorted subscript_cmp (row ++ others))
  pub filled : AreFilled others

-- all places of some children, in order
abbrev pub all_of : Children → List (List ℕ × Subtree)
all_of c = c.row.items ++ c.others.entries

-- a row that begins with a child, and others behind it
abbrev pub IsSound : Children → Type 0
IsSound c = IsOrdered c.row.items c.others.entries × IsTrimmed c.row.items

-- a child can be added at s
pub record CanAdd (c : Children) (s : List ℕ) (child : Subtree) : Type 0 where
  pub sound : IsSound c
  pub absent : lookup (is_at (subscript_cmp s)) (all_of c) ≡ None
  pub filled : 0 < length child

-- a call added a child, or left all children as they were
pub record Adds {A E : Type 0} (old new : Children) (s : List ℕ) (child : Subtree) (r : Result A E) : Type 0 where
  pub sound : IsSound new
  pub ok : OnOk r (live (all_of new) ≡ insert_entry subscript_cmp (live (all_of old)) s child)
  pub err : OnErr r (live (all_of new) ≡ live (all_of old))

-- all places of a node's children
abbrev pub places : Option (Box Children Global) → List (List ℕ × Subtree)
places None = []
places (Some c) = all_of c.value

-- a node has no children, or sound ones
abbrev pub AreSound : Option (Box Children Global) → Type 0
AreSound None = Unit {0}
AreSound (Some c) = IsSound c.value × (0 < length (all_of c.value))
