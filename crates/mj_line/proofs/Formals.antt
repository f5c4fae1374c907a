-- Names that are all different, read one after the other; and dots.
use Rattle.std.proofs.Common.{◌≡◌, ℕ, zero, suc, ◌+◌, ◌≤◌, ◌<◌, nat_le, List, [], ◌∷◌, ◌++◌, length, refl, ap, sym, ◌∙◌, subst, Bool, true, false, append_assoc, append-nil, arith}
use Rattle.std.specs.Prelude.{cond, bytes_eq, ◌||◌}
use Rattle.std.specs.List.{IsDistinct, list_any, AllByRecursion}
use Rattle.std.proofs.lemmas.Bool.Decides.{nat_tests}
use Rattle.std.proofs.lemmas.Slice.Eq.{bytes_eq-Decides}
use Rattle.mj_ast.specs.Commands.{greatest}
use Rattle.mj_ast.specs.Lines.{AreFormals}
use Rattle.mj_line.specs.Sentences.{Sentence}
use Rattle.mj_line.specs.Machine.{dotted, is_new}

-- ---- names

-- each may follow those before it
abbrev pub AreNew : List (List ℕ) → List (List ℕ) → Type 0
AreNew before [] = Unit {0}
AreNew before (w ∷ ws) = (is_new before w ≡ true) × AreNew (before ++ w ∷ []) ws

false_true : false ≡ true → ⊥
false_true e = cc

or_left : (a b : Bool) → (a || b) ≡ false → a ≡ false
or_left true b e = e
or_left false b e = refl

or_right : (a b : Bool) → (a || b) ≡ false → b ≡ false
or_right true b e = absurd (false_true (sym e))
or_right false b e = e

or_none : (a b : Bool) → a ≡ false → b ≡ false → (a || b) ≡ false
or_none true b e f = e
or_none false b e f = f

new_apart : (found short : Bool) → cond found false short ≡ true → found ≡ false
new_apart true short e = absurd (false_true e)
new_apart false short e = refl

new_short : (found short : Bool) → cond found false short ≡ true → short ≡ true
new_short true short e = absurd (false_true e)
new_short false short e = e

new_from : (found short : Bool) → found ≡ false → short ≡ true → cond found false short ≡ true
new_from true short e f = absurd (false_true (sym e))
new_from false short e f = f

-- a word is another one, seen from either side
other_as : (v w : List ℕ) (b : Bool) → bytes_eq w v ≡ b → bytes_eq v w ≡ false → b ≡ false
other_as v w true e f = absurd (false_true (sym f ∙ (bytes_eq-Decides v w).1 (sym ((bytes_eq-Decides w v).0 e))))
other_as v w false e f = refl

other : (v w : List ℕ) → bytes_eq v w ≡ false → bytes_eq w v ≡ false
other v w f = other_as v w (bytes_eq w v) refl f

-- what holds of all holds of one of them
all_at : {X : Type 0} (P : X → Type 0) (xs : List X) (y : X) (zs : List X) → AllByRecursion P (xs ++ y ∷ zs) → P y
all_at P [] y zs h = h.0
all_at P (x ∷ xs) y zs h = all_at P xs y zs h.1

all_more : {X : Type 0} (P : X → Type 0) (xs : List X) (y : X) → AllByRecursion P xs → P y → AllByRecursion P (xs ++ y ∷ [])
all_more P [] y h i = (i, tt)
all_more P (x ∷ xs) y h i = (h.0, all_more P xs y h.1 i)

-- a name of a list without equal names is none of those before it
apart : (before : List (List ℕ)) (w : List ℕ) (ws : List (List ℕ)) → IsDistinct bytes_eq (before ++ w ∷ ws) → list_any (bytes_eq w) before ≡ false
unfolding IsDistinct
apart [] w ws d = refl
apart (v ∷ vs) w ws d =
    or_none (bytes_eq w v) (list_any (bytes_eq w) vs) (other v w (all_at (λ y. bytes_eq v y ≡ false) vs w ws d.0)) (apart vs w ws d.1)

distinct_more : (before : List (List ℕ)) (w : List ℕ) → IsDistinct bytes_eq before → list_any (bytes_eq w) before ≡ false → IsDistinct bytes_eq (before ++ w ∷ [])
unfolding IsDistinct
distinct_more [] w d e = (tt, tt)
distinct_more (v ∷ vs) w d e = (
  all_more (λ y. bytes_eq v y ≡ false) vs w d.0 (other w v (or_left (bytes_eq w v) (list_any (bytes_eq w) vs) e)),
  distinct_more vs w d.1 (or_right (bytes_eq w v) (list_any (bytes_eq w) vs) e),
)

short_is : (w : List ℕ) → length w ≤ 31 → nat_le (length w) 31 ≡ true
short_is w h = grind (arith, nat_tests)

is_short : (w : List ℕ) → nat_le (length w) 31 ≡ true → length w ≤ 31
is_short w h = grind (arith, nat_tests)

new_behind : (names before : List (List ℕ)) → greatest length names ≤ 31 → IsDistinct bytes_eq (before ++ names) → AreNew before names
new_behind [] before g d = tt
new_behind (w ∷ ws) before g d =
    let D : List (List ℕ) → Type 0 = λ xs. IsDistinct bytes_eq xs in (
      new_from (list_any (bytes_eq w) before) (nat_le (length w) 31) (apart before w ws d) (short_is w (omega arith)),
      new_behind ws (before ++ w ∷ []) (omega arith) (subst D (sym (append_assoc before (w ∷ []) ws)) d),
    )

-- formals may be read one after the other
pub formals_new : (names : List (List ℕ)) → AreFormals names → AreNew [] names
formals_new names f = new_behind names [] f.short f.distinct

formals_behind : (names before : List (List ℕ)) → AreNew before names → IsDistinct bytes_eq before → (greatest length names ≤ 31) × IsDistinct bytes_eq (before ++ names)
formals_behind [] before n d =
    let D : List (List ℕ) → Type 0 = λ xs. IsDistinct bytes_eq xs in
    (omega arith, subst D (sym (append-nil before)) d)
formals_behind (w ∷ ws) before n d =
    let D : List (List ℕ) → Type 0 = λ xs. IsDistinct bytes_eq xs in
    let found = list_any (bytes_eq w) before in
    let h = formals_behind ws (before ++ w ∷ []) n.1 (distinct_more before w d (new_apart found (nat_le (length w) 31) n.0)) in
    let short = is_short w (new_short found (nat_le (length w) 31) n.0) in
    (let g = h.0 in omega arith, subst D (append_assoc before (w ∷ []) ws) h.1)

none_distinct : IsDistinct bytes_eq []
unfolding IsDistinct
none_distinct = tt

-- names that were read one after the other are formals
pub new_formals : (names : List (List ℕ)) → AreNew [] names → AreFormals names
new_formals names n = let h = formals_behind names [] n none_distinct in record { short = h.0; distinct = h.1 }

-- a word over its limit is none
pub long_new : (names : List (List ℕ)) (w : List ℕ) → nat_le (length w) 31 ≡ false → is_new names w ≡ false
long_new names w e = long_as (list_any (bytes_eq w) names) (nat_le (length w) 31) e
  where
    long_as : (found short : Bool) → short ≡ false → cond found false short ≡ false
    long_as true short f = refl
    long_as false short f = f

-- ---- another name

-- the first byte of a word, or 0
abbrev head_of : List ℕ → ℕ
head_of [] = 0
head_of (b ∷ bs) = b

-- a word of one byte, which is greater than the first of each of these
pub fresh : List (List ℕ) → List ℕ
fresh names = suc (greatest head_of names) ∷ []

larger_as : (n : ℕ) (w : List ℕ) (b : Bool) → bytes_eq (n ∷ []) w ≡ b → head_of w < n → b ≡ false
larger_as n w true e h = absurd (let same = ap head_of ((bytes_eq-Decides (n ∷ []) w).0 e) in omega arith)
larger_as n w false e h = refl

larger : (n : ℕ) (names : List (List ℕ)) → greatest head_of names < n → list_any (bytes_eq (n ∷ [])) names ≡ false
larger n [] h = refl
larger n (w ∷ ws) h = or_none (bytes_eq (n ∷ []) w) (list_any (bytes_eq (n ∷ [])) ws) (larger_as n w (bytes_eq (n ∷ []) w) refl (omega arith)) (larger n ws (omega arith))

-- names of one byte never run out
pub fresh_new : (names : List (List ℕ)) → is_new names (fresh names) ≡ true
unfolding fresh
fresh_new names = new_from (list_any (bytes_eq (suc (greatest head_of names) ∷ [])) names) true (larger (suc (greatest head_of names)) names (omega arith)) refl

-- ---- dots

-- with so many more dots
abbrev pub dotted_by : ℕ → Sentence → Sentence
dotted_by zero o = o
dotted_by (suc n) o = dotted_by n (dotted o)

pub dotted_is : (n : ℕ) (o : Sentence) → dotted_by n o ≡ record { label = o.label; formals = o.formals; level = n + o.level; clauses = o.clauses }
dotted_is zero o = ap (λ (l : ℕ). let s : Sentence = record { label = o.label; formals = o.formals; level = l; clauses = o.clauses } in s) (let e : o.level ≡ 0 + o.level = omega arith in e)
dotted_is (suc n) o =
    dotted_is n (dotted o)
    ∙ ap (λ (l : ℕ). let s : Sentence = record { label = o.label; formals = o.formals; level = l; clauses = o.clauses } in s) (let e : n + suc o.level ≡ suc n + o.level = omega arith in e)
