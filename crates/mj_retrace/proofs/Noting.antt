-- What is noted of who holds what: it grows by names that weren't noted, and what is held still stays.
use Rattle.std.specs.Prelude.{T, ◌==◌, ◌&&◌, ◌||◌, ◌⊎◌, nat_lt, not, if◌then◌else◌, Result, Ok, Err, OnOk}
use Rattle.std.specs.List.{All, Contains, filter}
use Rattle.std.proofs.Common.{◌≡◌, ℕ, zero, suc, ◌<◌, Bool, true, false, cond, List, [], ◌∷◌, ◌++◌, refl, sym, ◌∙◌, subst, inl, inr, arith, eq-eqb, eqb→eq}
use Rattle.std.proofs.lemmas.List.Elements.{All-nil, All-cons, All-head, All-tail, All-push, All-append}
use Rattle.mj_subs.specs.Name.{Name, names_eq}
use Rattle.mj_subs.specs.Laws.Tests.{names_eq-Decides}
use Rattle.mj_locktab.specs.Locks.{Locks, count_of}
use Rattle.mj_retrace.specs.Noted.{Note, Gone, is_held, is_noted, with_name, with_names, gone_of, gone}

-- what holds is so of whichever result
pub whichever : {A E P : Type 0} (r : Result A E) → P → OnOk r P
whichever (Ok a) p = p
whichever (Err e) p = tt

-- ---- tests

pub true_not : true ≡ false → ⊥
true_not e = cc

pub held_so : (n : ℕ) → 0 < n → nat_lt 0 n ≡ true
held_so n some = grind (arith, some)

pub held_some : (n : ℕ) → nat_lt 0 n ≡ true → 0 < n
held_some n is = grind (arith, is)

pub held_none : (n : ℕ) → nat_lt 0 n ≡ false → n ≡ 0
held_none n is = grind (arith, is)

either : (a b : Bool) → (a || b) ≡ true → (a ≡ true) ⊎ (b ≡ true)
either true b e = inl refl
either false b e = inr e

or_left : (a b : Bool) → a ≡ true → (a || b) ≡ true
or_left true b e = refl
or_left false b e = absurd (true_not (sym e))

or_right : (a b : Bool) → b ≡ true → (a || b) ≡ true
or_right true b e = refl
or_right false b e = e

both : (a b : Bool) → (a && b) ≡ true → (a ≡ true) × (b ≡ true)
both true b e = (refl, e)
both false b e = absurd (true_not (sym e))

and_true : (a b : Bool) → a ≡ true → b ≡ true → (a && b) ≡ true
and_true true b e f = f
and_true false b e f = absurd (true_not (sym e))

-- ---- what is noted

-- whether this is a note of a job and a name
abbrev is_note : ℕ → Name → Note → Bool
is_note job name h = (h.0 == job) && names_eq h.1 name

note_is : (job : ℕ) (name : Name) (h : Note) → is_note job name h ≡ true → (h.0 ≡ job) × (h.1 ≡ name)
note_is job name h is =
    let two = both (h.0 == job) (names_eq h.1 name) is in
    (eqb→eq h.0 job (subst T (sym two.0) tt), (names_eq-Decides h.1 name).0 two.1)

own_note : (job : ℕ) (name : Name) (place : ℕ) → is_note job name (job, name, place) ≡ true
own_note job name place = and_true (job == job) (names_eq name name) (eq-eqb job job refl) ((names_eq-Decides name name).1 refl)

-- a job and a name that are noted are noted with a place
pub place_noted : (holds : List Note) (job : ℕ) (name : Name) → is_noted holds job name ≡ true → (place : ℕ) × Contains holds (job, name, place)
place_noted [] job name is = absurd (true_not (sym is))
place_noted (h ∷ holds) job name is = by (either (is_note job name h) (is_noted holds job name) is) (λ later. place_noted holds job name later)
  where
    by : (is_note job name h ≡ true) ⊎ (is_noted holds job name ≡ true) → (is_noted holds job name ≡ true → (place : ℕ) × Contains holds (job, name, place))
        → (place : ℕ) × Contains (h ∷ holds) (job, name, place)
    by (inl here) rest =
        let same = note_is job name h here in
        (h.2, (0, omega arith, (λ i. (same.0 i, same.1 i, h.2))))
    by (inr later) rest = let found = rest later in (found.0, (suc found.1.0, (let less = found.1.1 in omega (arith, less)), found.1.2))

-- one more leaves what is noted
noted_on : (holds more : List Note) (job : ℕ) (name : Name) → is_noted holds job name ≡ true → is_noted (holds ++ more) job name ≡ true
noted_on [] more job name is = absurd (true_not (sym is))
noted_on (h ∷ holds) more job name is = by (either (is_note job name h) (is_noted holds job name) is) (λ later. noted_on holds more job name later)
  where
    by : (is_note job name h ≡ true) ⊎ (is_noted holds job name ≡ true) → (is_noted holds job name ≡ true → is_noted (holds ++ more) job name ≡ true)
        → is_noted (h ∷ (holds ++ more)) job name ≡ true
    by (inl here) rest = or_left (is_note job name h) (is_noted (holds ++ more) job name) here
    by (inr later) rest = or_right (is_note job name h) (is_noted (holds ++ more) job name) (rest later)

-- and is noted
noted_now : (holds : List Note) (job : ℕ) (name : Name) (place : ℕ) → is_noted (holds ++ (job, name, place) ∷ []) job name ≡ true
noted_now [] job name place = or_left (is_note job name (job, name, place)) false (own_note job name place)
noted_now (h ∷ holds) job name place = or_right (is_note job name h) (is_noted (holds ++ (job, name, place) ∷ []) job name) (noted_now holds job name place)

-- what is held stays noted
pub noted_held : (locks : Locks) (holds : List Note) (job : ℕ) (name : Name) → is_noted holds job name ≡ true → 0 < count_of locks job name
    → is_noted (filter (is_held locks) holds) job name ≡ true
noted_held locks [] job name is some = absurd (true_not (sym is))
noted_held locks (h ∷ holds) job name is some =
    by (either (is_note job name h) (is_noted holds job name) is) (is_held locks h) refl (λ later. noted_held locks holds job name later some)
  where
    by : (is_note job name h ≡ true) ⊎ (is_noted holds job name ≡ true) → (b : Bool) → is_held locks h ≡ b
        → (is_noted holds job name ≡ true → is_noted (filter (is_held locks) holds) job name ≡ true)
        → is_noted (cond b (h ∷ filter (is_held locks) holds) (filter (is_held locks) holds)) job name ≡ true
    by (inl here) true k rest = or_left (is_note job name h) (is_noted (filter (is_held locks) holds) job name) here
    by (inl here) false k rest =
        let same = note_is job name h here in
        let so : is_held locks h ≡ nat_lt 0 (count_of locks job name) = (λ i. nat_lt 0 (count_of locks (same.0 i) (same.1 i))) in
        absurd (true_not (sym (held_so (count_of locks job name) some) ∙ sym so ∙ k))
    by (inr later) true k rest = or_right (is_note job name h) (is_noted (filter (is_held locks) holds) job name) (rest later)
    by (inr later) false k rest = rest later

-- ---- names that are noted anew

module _ (locks : Locks) (job place : ℕ) where
  -- a name is noted where its job holds it and it wasn't noted
  abbrev pub IsNew : List Note → Name → Type 0
  IsNew holds name = (0 < count_of locks job name) × (is_noted holds job name ≡ false)

  with_name_on : (name : Name) (holds : List Note) (other : ℕ) (m : Name) → is_noted holds other m ≡ true → is_noted (with_name locks job place name holds) other m ≡ true
  with_name_on name holds other m is = by (nat_lt 0 (count_of locks job name) && not (is_noted holds job name))
    where
      by : (b : Bool) → is_noted (if b then holds ++ (job, name, place) ∷ [] else holds) other m ≡ true
      by true = noted_on holds ((job, name, place) ∷ []) other m is
      by false = is

  pub with_names_on : (names : List Name) (holds : List Note) (other : ℕ) (m : Name) → is_noted holds other m ≡ true
      → is_noted (with_names locks job place names holds) other m ≡ true
  with_names_on [] holds other m is = is
  with_names_on (name ∷ names) holds other m is = with_names_on names (with_name locks job place name holds) other m (with_name_on name holds other m is)

  -- a name that the job holds is noted then
  with_name_noted : (name : Name) (holds : List Note) → 0 < count_of locks job name → is_noted (with_name locks job place name holds) job name ≡ true
  with_name_noted name holds some = by (nat_lt 0 (count_of locks job name)) (is_noted holds job name) (held_so (count_of locks job name) some) refl
    where
      by : (a b : Bool) → a ≡ true → is_noted holds job name ≡ b → is_noted (if (a && not b) then holds ++ (job, name, place) ∷ [] else holds) job name ≡ true
      by true true p q = q
      by true false p q = noted_now holds job name place
      by false b p q = absurd (true_not (sym p))

  pub with_names_noted : (names : List Name) (holds : List Note) (m : Name) → Contains names m → 0 < count_of locks job m
      → is_noted (with_names locks job place names holds) job m ≡ true
  with_names_noted [] holds m is some = absurd (let none = is.1 in omega (arith, none))
  with_names_noted (name ∷ names) holds m (zero, within, is) some =
      with_names_on names (with_name locks job place name holds) job m
      (subst (λ (n : Name). is_noted (with_name locks job place name holds) job n ≡ true) is
      (with_name_noted name holds (subst (λ (n : Name). 0 < count_of locks job n) (sym is) some)))
  with_names_noted (name ∷ names) holds m (suc k, within, is) some = with_names_noted names (with_name locks job place name holds) m (k, omega (arith, within), is) some

  -- what holds of all that is noted, and of each name that is noted anew, holds of all; a name that is new among more is new among fewer
  module _ (P : Note → Type 0) where
    with_name_all : (name : Name) (holds : List Note) → All P holds → (IsNew holds name → P (job, name, place)) → All P (with_name locks job place name holds)
    with_name_all name holds all new = by (nat_lt 0 (count_of locks job name)) (is_noted holds job name) refl refl
      where
        by : (a b : Bool) → nat_lt 0 (count_of locks job name) ≡ a → is_noted holds job name ≡ b → All P (if (a && not b) then holds ++ (job, name, place) ∷ [] else holds)
        by true true p q = all
        by true false p q = All-push P holds (job, name, place) all (new (held_some (count_of locks job name) p, q))
        by false b p q = all

    pub with_names_all : (names : List Name) (first holds : List Note) → All P holds
        → ((other : ℕ) (m : Name) → is_noted first other m ≡ true → is_noted holds other m ≡ true)
        → ((m : Name) → Contains names m → IsNew first m → P (job, m, place)) → All P (with_names locks job place names holds)
    with_names_all [] first holds all more new = all
    with_names_all (name ∷ names) first holds all more new =
        with_names_all names first (with_name locks job place name holds)
        (with_name_all name holds all (λ is. new name (0, omega arith, refl) (is.0, fewer (is_noted first job name) refl is.1)))
        (λ other m is. with_name_on name holds other m (more other m is))
        (λ m is. new m (suc is.0, (let less = is.1 in omega (arith, less)), is.2))
      where
        fewer : (b : Bool) → is_noted first job name ≡ b → is_noted holds job name ≡ false → is_noted first job name ≡ false
        fewer true p q = absurd (true_not (sym (more job name p) ∙ q))
        fewer false p q = p

-- ---- what isn't held any more

-- what holds of each of it
pub gone_all : (locks : Locks) (place : ℕ) (P : Note → Type 0) (Q : Gone → Type 0) → ((h : Note) → P h → is_held locks h ≡ false → Q (h.0, h.1, h.2, place))
    → (holds : List Note) → All P holds → All Q (gone locks place holds)
gone_all locks place P Q each [] all = All-nil Q
gone_all locks place P Q each (h ∷ holds) all =
    All-append Q (gone_of (is_held locks h) place h) (gone locks place holds) (by (is_held locks h) refl) (gone_all locks place P Q each holds (All-tail P h holds all))
  where
    by : (b : Bool) → is_held locks h ≡ b → All Q (gone_of b place h)
    by true is = All-nil Q
    by false is = All-cons Q (h.0, h.1, h.2, place) [] (each h (All-head P h holds all) is) (All-nil Q)

-- and what holds of all that is held still
pub held_all : (locks : Locks) (P Q : Note → Type 0) → ((h : Note) → P h → is_held locks h ≡ true → Q h) → (holds : List Note) → All P holds
    → All Q (filter (is_held locks) holds)
held_all locks P Q each [] all = All-nil Q
held_all locks P Q each (h ∷ holds) all = by (is_held locks h) refl (held_all locks P Q each holds (All-tail P h holds all))
  where
    by : (b : Bool) → is_held locks h ≡ b → All Q (filter (is_held locks) holds) → All Q (cond b (h ∷ filter (is_held locks) holds) (filter (is_held locks) holds))
    by true is rest = All-cons Q h (filter (is_held locks) holds) (each h (All-head P h holds all) is) rest
    by false is rest = rest
