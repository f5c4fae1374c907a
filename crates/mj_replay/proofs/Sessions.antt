-- The sessions of the principal device that a trace names are there in the pool that is made of it.
use Rattle.std.proofs.Common.{◌≡◌, ◌⊎◌, inl, inr, ◌∙◌, ◌+◌, ◌≤◌, zero, suc, ℕ, Bool, true, false, cond, ◌&&◌, List, [], ◌∷◌, length, Option, Some, None, refl, sym, ap, subst, arith}
use Rattle.std.specs.List.{find}
use Rattle.std.specs.Str.{bytes_eq}
use Rattle.std.specs.Cmp.Lexicographic.{slice_cmp, bytes_decides}
use Rattle.std.specs.Ordering.{nat_cmp, is_lt, is_eq, match_ordering, ordering_reverse}
use Rattle.std.specs.declared.cmp.Ordering.{Ordering}
use Rattle.std.specs.declared.cmp.Ordering.TheVariants.{Less, Equal, Greater}
use Rattle.std.proofs.lemmas.Cmp.{nat_list_cmp_total}
use Rattle.std.proofs.lemmas.Map.Text.{is_eq-slice_cmp}
use Rattle.mj_dev.specs.Shelves.{Shelf, is_named, new_shelf, one_more, added, left_of, principal}
use Rattle.mj_trace.specs.Trace.{Traced}
use Rattle.mj_trace.specs.Lines.{is_before, rises, IsTrace}
use Rattle.mj_trace.specs.Lines as lines
use Rattle.mj_dev.specs.Pools.{with_more, with_all, shelves_of}

both_true : (a b : Bool) → (a && b) ≡ true → (a ≡ true) × (b ≡ true)
both_true true b h = (refl, h)
both_true false b h = absurd cc

-- ---- names

abbrev cmp : List ℕ → List ℕ → Ordering
cmp a b = slice_cmp nat_cmp a b

self : (r : Ordering) → r ≡ ordering_reverse r → r ≡ Equal
self Less e = absurd cc
self Equal e = refl
self Greater e = absurd cc

cmp_self : (name : List ℕ) → cmp name name ≡ Equal
cmp_self name = self (cmp name name) (nat_list_cmp_total.antisymm name name)

same : (a b : List ℕ) (r : Ordering) → cmp a b ≡ r → bytes_eq a b ≡ is_eq r
same a b r e = sym (is_eq-slice_cmp a b) ∙ ap is_eq e

before_is : (a b : List ℕ) → is_before a b ≡ true → cmp a b ≡ Less
before_is a b h = by (cmp a b) h
  where
    by : (r : Ordering) → is_lt r ≡ true → r ≡ Less
    by Less k = refl
    by Equal k = absurd cc
    by Greater k = absurd cc

-- ---- one device more

abbrev left_in : Option Shelf → ℕ
left_in o = elim o [ None ↦ 0 | Some shelf ↦ shelf.left ]

-- along the shelves the names come before this one, up to its own, if it has one
abbrev MeetsBy : Ordering → Type 0 → Type 0
MeetsBy Less X = X
MeetsBy Equal X = Unit {0}
MeetsBy Greater X = ⊥

abbrev Meets : List ℕ → List Shelf → Type 0
Meets name [] = Unit {0}
Meets name (s ∷ ss) = MeetsBy (cmp s.name name) (Meets name ss)

-- a device more of this name is one more that is left
abbrev IsAdded : List ℕ → List Shelf → List Shelf → Type 0
IsAdded name ss more = Meets name more × (left_of name more ≡ left_of name ss + 1)

module _ (name : List ℕ) (s : Shelf) (ss : List Shelf) where
  left_here : bytes_eq s.name name ≡ true → left_of name (s ∷ ss) ≡ s.left
  left_here e = ap (λ b. left_in (cond b (Some s) (find (is_named name) ss))) e

  left_behind : bytes_eq s.name name ≡ false → left_of name (s ∷ ss) ≡ left_of name ss
  left_behind e = ap (λ b. left_in (cond b (Some s) (find (is_named name) ss))) e

added_by : (name : List ℕ) (s : Shelf) (ss : List Shelf) (r : Ordering) → cmp s.name name ≡ r → MeetsBy r (Meets name ss) → (Meets name ss → IsAdded name ss (added name ss))
    → IsAdded name (s ∷ ss) (match_ordering r (s ∷ added name ss) (one_more s ∷ ss) (new_shelf name ∷ s ∷ ss))
added_by name s ss Less e m rec =
    let more = rec m in
    let other : bytes_eq s.name name ≡ false = same s.name name Less e in (
      subst (λ r. MeetsBy r (Meets name (added name ss))) (sym e) more.0,
      left_behind name s (added name ss) other ∙ more.1 ∙ ap (λ n. n + 1) (sym (left_behind name s ss other)),
    )
added_by name s ss Equal e m rec =
    let its : bytes_eq s.name name ≡ true = same s.name name Equal e in (
      subst (λ r. MeetsBy r (Meets name ss)) (sym e) tt,
      left_here name (one_more s) ss its ∙ ap (λ n. n + 1) (sym (left_here name s ss its)),
    )
added_by name s ss Greater e m rec = absurd m

one_added : (name : List ℕ) (ss : List Shelf) → Meets name ss → IsAdded name ss (added name ss)
one_added name [] m = (
  subst (λ r. MeetsBy r Unit) (sym (cmp_self name)) tt,
  left_here name (new_shelf name) [] (same name name Equal (cmp_self name)),
)
one_added name (s ∷ ss) m = added_by name s ss (cmp s.name name) refl m (λ k. one_added name ss k)

more_added : (n : ℕ) (name : List ℕ) (ss : List Shelf) → Meets name ss → left_of name (with_more n name ss) ≡ left_of name ss + n
more_added zero name ss m = omega arith
more_added (suc n) name ss m = let one = one_added name ss m in let more = more_added n name (added name ss) one.0 in omega (arith, one.1, more)

-- ---- devices of other names

-- all names come before this one
abbrev AllBefore : List ℕ → List Shelf → Type 0
AllBefore name [] = Unit {0}
AllBefore name (s ∷ ss) = (cmp s.name name ≡ Less) × AllBefore name ss

meets_all : (name : List ℕ) (ss : List Shelf) → AllBefore name ss → Meets name ss
meets_all name [] h = tt
meets_all name (s ∷ ss) h = subst (λ r. MeetsBy r (Meets name ss)) (sym h.0) (meets_all name ss h.1)

module _ (name other : List ℕ) (is : cmp other name ≡ Less) where
  before_by : (s : Shelf) (ss : List Shelf) (r : Ordering) → AllBefore name (s ∷ ss) → AllBefore name (added other ss)
      → AllBefore name (match_ordering r (s ∷ added other ss) (one_more s ∷ ss) (new_shelf other ∷ s ∷ ss))
  before_by s ss Less h more = (h.0, more)
  before_by s ss Equal h more = (h.0, h.1)
  before_by s ss Greater h more = (is, h)

  before_added : (ss : List Shelf) → AllBefore name ss → AllBefore name (added other ss)
  before_added [] h = (is, tt)
  before_added (s ∷ ss) h = before_by s ss (cmp s.name other) h (before_added ss h.1)

  before_more : (n : ℕ) (ss : List Shelf) → AllBefore name ss → AllBefore name (with_more n other ss)
  before_more zero ss h = h
  before_more (suc n) ss h = before_more n (added other ss) (before_added ss h)

module _ (name other : List ℕ) (is : bytes_eq other name ≡ false) where
  skipped : (s : Shelf) (b : Bool) (x y : Option Shelf) → left_in x ≡ left_in y → left_in (cond b (Some s) x) ≡ left_in (cond b (Some s) y)
  skipped s true x y e = refl
  skipped s false x y e = e

  kept_by : (s : Shelf) (ss : List Shelf) (r : Ordering) → cmp s.name other ≡ r → left_of name (added other ss) ≡ left_of name ss
      → left_of name (match_ordering r (s ∷ added other ss) (one_more s ∷ ss) (new_shelf other ∷ s ∷ ss)) ≡ left_of name (s ∷ ss)
  kept_by s ss Less e rec = skipped s (bytes_eq s.name name) (find (is_named name) (added other ss)) (find (is_named name) ss) rec
  kept_by s ss Equal e rec =
      let equal = (bytes_decides s.name other).0 (same s.name other Equal e) in
      let apart : bytes_eq s.name name ≡ false = ap (λ n. bytes_eq n name) equal ∙ is in
      left_behind name (one_more s) ss apart ∙ sym (left_behind name s ss apart)
  kept_by s ss Greater e rec = left_behind name (new_shelf other) (s ∷ ss) is

  kept_added : (ss : List Shelf) → left_of name (added other ss) ≡ left_of name ss
  kept_added [] = left_behind name (new_shelf other) [] is
  kept_added (s ∷ ss) = kept_by s ss (cmp s.name other) refl (kept_added ss)

  kept_more : (n : ℕ) (ss : List Shelf) → left_of name (with_more n other ss) ≡ left_of name ss
  kept_more zero ss = refl
  kept_more (suc n) ss = kept_more n (added other ss) ∙ kept_added ss

-- ---- the devices of a trace

-- none has this name
abbrev NoneNamed : List ℕ → List (List ℕ × ℕ) → Type 0
NoneNamed name [] = Unit {0}
NoneNamed name (d ∷ ds) = (bytes_eq d.0 name ≡ false) × NoneNamed name ds

kept_all : (name : List ℕ) (ds : List (List ℕ × ℕ)) (ss : List Shelf) → NoneNamed name ds → left_of name (with_all ds ss) ≡ left_of name ss
kept_all name [] ss h = refl
kept_all name (d ∷ ds) ss h = kept_all name ds (with_more d.1 d.0 ss) h.1 ∙ kept_more name d.0 h.0 d.1 ss

behind_first : (d : List ℕ × ℕ) (ds : List (List ℕ × ℕ)) → rises (d ∷ ds) ≡ true → rises ds ≡ true
behind_first d [] h = refl
behind_first d (e ∷ ds) h = (both_true (is_before d.0 e.0) (rises (e ∷ ds)) h).1

-- behind a name that doesn't come before this one it doesn't stand
none_behind : (name : List ℕ) (d : List ℕ × ℕ) (ds : List (List ℕ × ℕ)) → rises (d ∷ ds) ≡ true → (cmp name d.0 ≡ Less) ⊎ (name ≡ d.0) → NoneNamed name ds
none_behind name d [] h k = tt
none_behind name d (e ∷ ds) h k =
    let p = both_true (is_before d.0 e.0) (rises (e ∷ ds)) h in
    let up = before_is d.0 e.0 p.0 in
    let here = by up k in
    (same e.0 name Greater (nat_list_cmp_total.antisymm e.0 name ∙ ap ordering_reverse here), none_behind name e ds p.1 (inl here))
  where
    by : cmp d.0 e.0 ≡ Less → (cmp name d.0 ≡ Less) ⊎ (name ≡ d.0) → cmp name e.0 ≡ Less
    by up (inl l) = nat_list_cmp_total.trans name d.0 e.0 l up
    by up (inr is) = subst (λ n. cmp n e.0 ≡ Less) (sym is) up

no_sessions : (ds : List (List ℕ × ℕ)) → NoneNamed principal ds → lines.principal ds ≡ 0
no_sessions [] h = refl
no_sessions (d ∷ ds) h = ap (λ b. cond b d.1 (lines.principal ds)) h.0 ∙ no_sessions ds h.1

module _ (d : List ℕ × ℕ) (ds : List (List ℕ × ℕ)) (ss : List Shelf) (up : rises (d ∷ ds) ≡ true) (below : AllBefore principal ss) where
  by_name : (r : Ordering) → cmp d.0 principal ≡ r → ((more : List Shelf) → AllBefore principal more → lines.principal ds ≤ left_of principal (with_all ds more))
      → lines.principal (d ∷ ds) ≤ left_of principal (with_all ds (with_more d.1 d.0 ss))
  by_name Less e rec =
      let here : lines.principal (d ∷ ds) ≡ lines.principal ds = ap (λ b. cond b d.1 (lines.principal ds)) (same d.0 principal Less e) in
      let more = rec (with_more d.1 d.0 ss) (before_more principal d.0 e d.1 ss below) in
      subst (λ n. n ≤ left_of principal (with_all ds (with_more d.1 d.0 ss))) (sym here) more
  by_name Equal e rec =
      let its = same d.0 principal Equal e in
      let equal = (bytes_decides d.0 principal).0 its in
      let here : lines.principal (d ∷ ds) ≡ d.1 = ap (λ b. cond b d.1 (lines.principal ds)) its in
      let all = kept_all principal ds (with_more d.1 d.0 ss) (none_behind principal d ds up (inr (sym equal))) in
      let more : left_of principal (with_more d.1 d.0 ss) ≡ left_of principal ss + d.1 =
      subst (λ n. left_of principal (with_more d.1 n ss) ≡ left_of principal ss + d.1) (sym equal) (more_added d.1 principal ss (meets_all principal ss below)) in
      omega (arith, here, all, more)
  by_name Greater e rec =
      let above : cmp principal d.0 ≡ Less = nat_list_cmp_total.antisymm principal d.0 ∙ ap ordering_reverse e in
      let here : lines.principal (d ∷ ds) ≡ lines.principal ds = ap (λ b. cond b d.1 (lines.principal ds)) (same d.0 principal Greater e) in
      let none = no_sessions ds (none_behind principal d ds up (inl above)) in
      omega (arith, here, none)

sessions_left : (ds : List (List ℕ × ℕ)) (ss : List Shelf) → rises ds ≡ true → AllBefore principal ss → lines.principal ds ≤ left_of principal (with_all ds ss)
sessions_left [] ss up below = omega arith
sessions_left (d ∷ ds) ss up below = by_name d ds ss up below (cmp d.0 principal) refl (λ more h. sessions_left ds more (behind_first d ds up) h)

-- each start of a trace finds its session
pub all_start : (t : Traced) → IsTrace t → length t.starts ≤ left_of principal (shelves_of t.pool)
all_start t h = let left = sessions_left t.pool [] h.devices tt in let few = h.sessions in omega (arith, left, few)
