-- What a change at the place that a search found does to the rows of a pool.
use Rattle.std.proofs.Common.{ℕ, zero, suc, ◌<◌, ◌+◌, Bool, true, false, not, cond, List, [], ◌∷◌, Option, Some, None, Result, Ok, Err, ◌≡◌, length, get_or, refl, sym, ap, ◌∙◌, arith}
use Rattle.std.specs.List.{find, insert, position_or_len, position}
use Rattle.std.proofs.Math.ListN.{set}
use Rattle.std.specs.Str.{bytes_eq}
use Rattle.std.specs.Ordering.{nat_cmp, is_lt, is_eq, match_ordering, ordering_reverse}
use Rattle.std.specs.Cmp.Lexicographic.{slice_cmp}
use Rattle.std.specs.declared.cmp.Ordering.TheVariants.{Less, Equal, Greater}
use Rattle.std.proofs.lemmas.Cmp.{nat_list_cmp_total}
use Rattle.std.proofs.lemmas.Map.Text.{is_eq-slice_cmp}
use Rattle.std.proofs.lemmas.List.{set-get_or, get_or_default}
use Rattle.std.proofs.lemmas.List.Quantifiers.{position-Some}
use Rattle.std.specs.Option.{IfSome, IfNone}
use Rattle.std.specs.Result.{OnOk, OnErr}
use Rattle.mj_dev.proofs.Places.{position_or_len-none, position_or_len-some}
use Rattle.mj_dev.specs.Shelves.{Shelf, with_first, is_named, is_behind, left_of, taken_of, IsThere, Belongs, after_take, IsBelow, AreRising}
use Rattle.mj_dev.specs.Shelves.{new_shelf, one_more, one_taken, shelf_of, more_by, added, grown}

-- where the search for the place of a name ends
abbrev pub place_for : List ℕ → List Shelf → ℕ
place_for name shelves = position_or_len (is_behind name) shelves

other_name : (s t : List ℕ) → bytes_eq s t ≡ true → is_eq (slice_cmp nat_cmp s t) ≡ false → ⊥
other_name s t same apart = let bad : ◌≡◌ {A = Bool} true false = sym same ∙ sym (is_eq-slice_cmp s t) ∙ apart in cc

same_name : (s t : List ℕ) → bytes_eq s t ≡ false → is_eq (slice_cmp nat_cmp s t) ≡ true → ⊥
same_name s t apart same = let bad : ◌≡◌ {A = Bool} false true = sym apart ∙ sym (is_eq-slice_cmp s t) ∙ same in cc

-- where the search over all finds nothing
pub find-none : {X : Type 0} (p : X → Bool) (xs : List X) → position_or_len p xs ≡ length xs → find p xs ≡ None
find-none p [] e = refl
find-none p (x ∷ xs) e =
    elim (p x) as (λ b. cond (not b) (1 + position_or_len p xs) 0 ≡ suc (length xs) → cond b (Some x) (find p xs) ≡ None) [
      | true ↦ λ q. absurd (omega arith)
      | false ↦ λ q. find-none p xs (omega arith)
    ] e

pub find-at : {X : Type 0} (p : X → Bool) (xs : List X) (i : ℕ) (d : X) → i < length xs → p (get_or xs i d) ≡ true → ((k : ℕ) → k < i → p (get_or xs k d) ≡ false) → find p xs ≡ Some (get_or xs i d)
find-at p [] i d within here before = absurd (omega arith)
find-at p (x ∷ xs) zero d within here before = ap (λ b. cond b (Some x) (find p xs)) here
find-at p (x ∷ xs) (suc i) d within here before =
    ap (λ b. cond b (Some x) (find p xs)) (before 0 (omega arith)) ∙ find-at p xs i d (omega arith) here (λ k below. before (suc k) (omega arith))

pub with_first-at : {X : Type 0} (p : X → Bool) (f : X → X) (xs : List X) (i : ℕ) (d : X) → i < length xs → p (get_or xs i d) ≡ true → ((k : ℕ) → k < i → p (get_or xs k d) ≡ false)
    → with_first p f xs ≡ set xs i (f (get_or xs i d))
with_first-at p f [] i d within here before = absurd (omega arith)
with_first-at p f (x ∷ xs) zero d within here before = ap (λ b. cond b (f x ∷ xs) (x ∷ with_first p f xs)) here
with_first-at p f (x ∷ xs) (suc i) d within here before =
    ap (λ b. cond b (f x ∷ xs) (x ∷ with_first p f xs)) (before 0 (omega arith)) ∙ ap (λ ys. x ∷ ys) (with_first-at p f xs i d (omega arith) here (λ k below. before (suc k) (omega arith)))

-- devices more of a name that is there, at the place that the search for it gives
pub grown-same : (count : ℕ) (name : List ℕ) (shelves : List Shelf) (i : ℕ) (d : Shelf) → i ≡ place_for name shelves → i < length shelves → bytes_eq (get_or shelves i d).name name ≡ true
    → grown count name shelves ≡ set shelves i (more_by count (get_or shelves i d))
grown-same count name [] i d at within named = absurd (omega arith)
grown-same count name (s ∷ ss) zero d at within named =
    elim (slice_cmp nat_cmp s.name name) as (λ r. slice_cmp nat_cmp s.name name ≡ r → 0 ≡ cond (not (not (is_lt r))) (1 + place_for name ss) 0
    → match_ordering r (s ∷ grown count name ss) (more_by count s ∷ ss) (shelf_of count name ∷ s ∷ ss) ≡ more_by count s ∷ ss) [
      | Less ↦ λ r e. absurd (omega arith)
      | Equal ↦ λ r e. refl
      | Greater ↦ λ r e. absurd (other_name s.name name named (ap is_eq r))
    ] refl at
grown-same count name (s ∷ ss) (suc i) d at within named =
    elim (slice_cmp nat_cmp s.name name) as (λ r. slice_cmp nat_cmp s.name name ≡ r → suc i ≡ cond (not (not (is_lt r))) (1 + place_for name ss) 0
    → match_ordering r (s ∷ grown count name ss) (more_by count s ∷ ss) (shelf_of count name ∷ s ∷ ss) ≡ s ∷ set ss i (more_by count (get_or ss i d))) [
      | Less ↦ λ r e. ap (λ ys. s ∷ ys) (grown-same count name ss i d (omega arith) (omega arith) named)
      | Equal ↦ λ r e. absurd (omega arith)
      | Greater ↦ λ r e. absurd (omega arith)
    ] refl at

-- the first devices of a name, at the place that the search for it gives
pub grown-new : (count : ℕ) (name : List ℕ) (shelves : List Shelf) (i : ℕ) (d : Shelf) → i ≡ place_for name shelves → (i < length shelves → bytes_eq (get_or shelves i d).name name ≡ false)
    → grown count name shelves ≡ insert shelves i (shelf_of count name)
grown-new count name [] zero d at other = refl
grown-new count name [] (suc i) d at other = absurd (omega arith)
grown-new count name (s ∷ ss) zero d at other =
    elim (slice_cmp nat_cmp s.name name) as (λ r. slice_cmp nat_cmp s.name name ≡ r → 0 ≡ cond (not (not (is_lt r))) (1 + place_for name ss) 0
    → match_ordering r (s ∷ grown count name ss) (more_by count s ∷ ss) (shelf_of count name ∷ s ∷ ss) ≡ shelf_of count name ∷ s ∷ ss) [
      | Less ↦ λ r e. absurd (omega arith)
      | Equal ↦ λ r e. absurd (same_name s.name name (other (omega arith)) (ap is_eq r))
      | Greater ↦ λ r e. refl
    ] refl at
grown-new count name (s ∷ ss) (suc i) d at other =
    elim (slice_cmp nat_cmp s.name name) as (λ r. slice_cmp nat_cmp s.name name ≡ r → suc i ≡ cond (not (not (is_lt r))) (1 + place_for name ss) 0
    → match_ordering r (s ∷ grown count name ss) (more_by count s ∷ ss) (shelf_of count name ∷ s ∷ ss) ≡ s ∷ insert ss i (shelf_of count name)) [
      | Less ↦ λ r e. ap (λ ys. s ∷ ys) (grown-new count name ss i d (omega arith) (λ below. other (omega arith)))
      | Equal ↦ λ r e. absurd (omega arith)
      | Greater ↦ λ r e. absurd (omega arith)
    ] refl at

-- one device is so many as one
pub added-one : (name : List ℕ) (shelves : List Shelf) → added name shelves ≡ grown 1 name shelves
added-one name [] = refl
added-one name (s ∷ ss) =
    ap (λ rest. match_ordering (slice_cmp nat_cmp s.name name) (s ∷ rest) (one_more s ∷ ss) (new_shelf name ∷ s ∷ ss)) (added-one name ss)

-- ---- names stay in order

above : (name other : List ℕ) → slice_cmp nat_cmp name other ≡ Greater → slice_cmp nat_cmp other name ≡ Less
above name other e = nat_list_cmp_total.antisymm other name ∙ ap ordering_reverse e

IsBelow-added : (first name : List ℕ) (shelves : List Shelf) → IsBelow first shelves → slice_cmp nat_cmp first name ≡ Less → IsBelow first (added name shelves)
IsBelow-added first name [] below less = less
IsBelow-added first name (s ∷ ss) below less =
    elim (slice_cmp nat_cmp s.name name) as (λ r. IsBelow first (match_ordering r (s ∷ added name ss) (one_more s ∷ ss) (new_shelf name ∷ s ∷ ss))) [
      | Less ↦ below
      | Equal ↦ below
      | Greater ↦ less
    ]

pub AreRising-added : (name : List ℕ) (shelves : List Shelf) → AreRising shelves → AreRising (added name shelves)
AreRising-added name [] rising = (tt, tt)
AreRising-added name (s ∷ ss) rising =
    elim (slice_cmp nat_cmp s.name name) as (λ r. slice_cmp nat_cmp s.name name ≡ r → AreRising (match_ordering r (s ∷ added name ss) (one_more s ∷ ss) (new_shelf name ∷ s ∷ ss))) [
      | Less ↦ λ r. (IsBelow-added s.name name ss rising.0 r, AreRising-added name ss rising.1)
      | Equal ↦ λ r. rising
      | Greater ↦ λ r. (above s.name name r, rising)
    ] refl

IsBelow-taken : (first name : List ℕ) (shelves : List Shelf) → IsBelow first shelves → IsBelow first (after_take name shelves)
IsBelow-taken first name [] below = below
IsBelow-taken first name (s ∷ ss) below =
    elim (is_named name s) as (λ b. IsBelow first (cond b (one_taken s ∷ ss) (s ∷ after_take name ss))) [ true ↦ below | false ↦ below ]

pub AreRising-taken : (name : List ℕ) (shelves : List Shelf) → AreRising shelves → AreRising (after_take name shelves)
AreRising-taken name [] rising = rising
AreRising-taken name (s ∷ ss) rising =
    elim (is_named name s) as (λ b. AreRising (cond b (one_taken s ∷ ss) (s ∷ after_take name ss))) [
      | true ↦ rising
      | false ↦ (IsBelow-taken s.name name ss rising.0, AreRising-taken name ss rising.1)
    ]

-- ---- what the calls of a pool use

pub found-there : (name : List ℕ) (shelves : List Shelf) (i : ℕ) (shelf : Shelf) → position (is_behind name) shelves ≡ Some i → shelf ≡ get_or shelves i shelf → is_named name shelf ≡ true
    → IsThere name shelves i
found-there name shelves i shelf found at named =
    let within : i < length shelves = (position-Some (is_behind name) shelves i shelf found).0 in
    let by : (count : ℕ) (d : Shelf) → grown count name shelves ≡ set shelves i (more_by count (get_or shelves i d)) =
    λ count d. grown-same count name shelves i d (sym (position_or_len-some (is_behind name) shelves i found)) within
    (ap (λ (s : Shelf). is_named name s) (get_or_default shelves i d shelf within ∙ sym at) ∙ named) in
    record { within = within; changes = λ d. added-one name shelves ∙ by 1 d; changes_by = by }

pub found-gap : (name : List ℕ) (shelves : List Shelf) (i : ℕ) (shelf : Shelf) → position (is_behind name) shelves ≡ Some i → shelf ≡ get_or shelves i shelf → is_named name shelf ≡ false
    → Belongs name shelves i
found-gap name shelves i shelf found at other =
    let within : i < length shelves = (position-Some (is_behind name) shelves i shelf found).0 in
    let by : (count : ℕ) → grown count name shelves ≡ insert shelves i (shelf_of count name) =
    λ count. grown-new count name shelves i shelf (sym (position_or_len-some (is_behind name) shelves i found)) (λ _. ap (λ (s : Shelf). is_named name s) (sym at) ∙ other) in
    record { within = omega arith; grows = added-one name shelves ∙ by 1; grows_by = by }

pub found-end : (name : List ℕ) (shelves : List Shelf) → position (is_behind name) shelves ≡ None → Belongs name shelves (length shelves)
found-end name shelves none =
    let by : (count : ℕ) → grown count name shelves ≡ insert shelves (length shelves) (shelf_of count name) =
    λ count. grown-new count name shelves (length shelves) (new_shelf name) (sym (position_or_len-none (is_behind name) shelves none)) (λ below. absurd (omega arith)) in
    record { within = omega arith; grows = added-one name shelves ∙ by 1; grows_by = by }

-- a row that a search by name found
pub record IsFound (name : List ℕ) (shelves : List Shelf) (i : ℕ) (shelf : Shelf) : Type 0 where
  pub left : left_of name shelves ≡ shelf.left
  pub taken : taken_of name shelves ≡ shelf.taken
  pub changes : after_take name shelves ≡ set shelves i (one_taken shelf)

pub found-named : (name : List ℕ) (shelves : List Shelf) (i : ℕ) (shelf : Shelf) → position (is_named name) shelves ≡ Some i → shelf ≡ get_or shelves i shelf → IsFound name shelves i shelf
found-named name shelves i shelf found at =
    let p = position-Some (is_named name) shelves i shelf found in
    let there : find (is_named name) shelves ≡ Some shelf = find-at (is_named name) shelves i shelf p.0 p.1 p.2 ∙ ap Some (sym at) in
    record {
      left = ap (λ (o : Option Shelf). elim o as (λ _. ℕ) [ None ↦ 0 | Some s ↦ s.left ]) there;
      taken = ap (λ (o : Option Shelf). elim o as (λ _. ℕ) [ None ↦ 0 | Some s ↦ s.taken ]) there;
      changes = with_first-at (is_named name) one_taken shelves i shelf p.0 p.1 p.2 ∙ ap (λ (s : Shelf). set shelves i (one_taken s)) (sym at);
    }

pub found-none : (name : List ℕ) (shelves : List Shelf) → position (is_named name) shelves ≡ None → find (is_named name) shelves ≡ None
found-none name shelves none = find-none (is_named name) shelves (position_or_len-none (is_named name) shelves none)

pub none-left : (name : List ℕ) (shelves : List Shelf) → position (is_named name) shelves ≡ None → left_of name shelves ≡ 0
none-left name shelves none = ap (λ (o : Option Shelf). elim o as (λ _. ℕ) [ None ↦ 0 | Some s ↦ s.left ]) (found-none name shelves none)

pub none-taken : (name : List ℕ) (shelves : List Shelf) → position (is_named name) shelves ≡ None → taken_of name shelves ≡ 0
none-taken name shelves none = ap (λ (o : Option Shelf). elim o as (λ _. ℕ) [ None ↦ 0 | Some s ↦ s.taken ]) (found-none name shelves none)

-- ---- what follows by the case of an answer

pub none_along : {A P Q : Type 0} (r : Option A) → (P → Q) → IfNone r P → IfNone r Q
none_along None f p = f p
none_along (Some a) f p = tt

pub some_along : {A P Q : Type 0} (r : Option A) → (P → Q) → IfSome r (λ _. P) → IfSome r (λ _. Q)
some_along None f p = tt
some_along (Some a) f p = f p

pub ok_along : {A B P Q : Type 0} (r : Result A B) → (P → Q) → OnOk r P → OnOk r Q
ok_along (Ok a) f p = f p
ok_along (Err e) f p = tt

pub err_along : {A B P Q : Type 0} (r : Result A B) → (P → Q) → OnErr r P → OnErr r Q
err_along (Ok a) f p = tt
err_along (Err e) f p = f p

pub rising-taken : {A : Type 0} (r : Option A) (name : List ℕ) (shelves : List Shelf) (i : ℕ) (shelf new : Shelf) → IsFound name shelves i shelf → shelf ≡ get_or shelves i shelf
    → IfNone r (new ≡ shelf) → IfSome r (λ _. new ≡ one_taken shelf) → AreRising shelves → AreRising (set shelves i new)
rising-taken None name shelves i shelf new found at kept taken rising =
    rw (ap (λ (s : Shelf). set shelves i s) (kept ∙ at) ∙ set-get_or shelves i shelf) rising
rising-taken (Some a) name shelves i shelf new found at kept taken rising =
    rw (ap (λ (s : Shelf). set shelves i s) taken ∙ sym found.changes) (AreRising-taken name shelves rising)

pub rising-added : {A B : Type 0} (r : Result A B) (name : List ℕ) (shelves : List Shelf) (i : ℕ) (shelf new : Shelf) → IsThere name shelves i → shelf ≡ get_or shelves i shelf
    → OnOk r (new ≡ one_more shelf) → OnErr r (new ≡ shelf) → AreRising shelves → AreRising (set shelves i new)
rising-added (Ok a) name shelves i shelf new there at more kept rising =
    rw (ap (λ (s : Shelf). set shelves i s) (more ∙ ap one_more at) ∙ sym (there.changes shelf)) (AreRising-added name shelves rising)
rising-added (Err e) name shelves i shelf new there at more kept rising =
    rw (ap (λ (s : Shelf). set shelves i s) (kept ∙ at) ∙ set-get_or shelves i shelf) rising
