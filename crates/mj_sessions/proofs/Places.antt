-- The sessions of a job, by the place where a search for a name ends.
use Rattle.std.proofs.Common.{ℕ, zero, suc, ◌<◌, ◌≤◌, ◌+◌, Bool, true, false, not, cond, List, [], ◌∷◌, ◌++◌, Option, Some, None, ◌≡◌, length, get_or, nat_lt, refl, sym, ap, ◌∙◌, arith, inr}
use Rattle.std.specs.Prelude.{slice_set, is_some}
use Rattle.mj_dev.specs.declared.talk.State.TheVariants as states
use Rattle.std.specs.List.{find, position, position_or_len, remove}
use Rattle.std.specs.Str.{bytes_eq}
use Rattle.std.proofs.lemmas.List.Quantifiers.{position-Some}
use Rattle.std.proofs.lemmas.List.Sums.{prefix_len-le-length}
use Rattle.std.proofs.lemmas.Slice.Eq.{bytes_eq-Decides}
use Rattle.mj_ask.specs.declared.ask.DeviceAsk.{DeviceAsk}
use Rattle.mj_dev.specs.Heard.{Heard}
use Rattle.mj_sessions.specs.declared.answer.Answer.{Answer}
use Rattle.mj_sessions.specs.Answers.{Hears, Asked, SessionEnds, IsEnding}
use borrow.Author.Tests.{ltb-false}
use Rattle.mj_sessions.specs.Named.{Named, is_named, session_of, with_session, without, AreApart}

-- where a search finds nothing
find-none : (p : Named → Bool) (xs : List Named) → position_or_len p xs ≡ length xs → find p xs ≡ None
find-none p [] e = refl
find-none p (x ∷ xs) e =
    elim (p x) as (λ b. cond (not b) (1 + position_or_len p xs) 0 ≡ suc (length xs) → cond b (Some x) (find p xs) ≡ None) [
      | true ↦ λ q. absurd (omega arith)
      | false ↦ λ q. find-none p xs (omega arith)
    ] e

pub absent : (p : Named → Bool) (xs : List Named) → position p xs ≡ None → find p xs ≡ None
absent p xs none =
    let at_most : position_or_len p xs ≤ length xs = prefix_len-le-length _ xs in
    let by_test : (b : Bool) → nat_lt (position_or_len p xs) (length xs) ≡ b → cond b (Some (position_or_len p xs)) None ≡ None → position_or_len p xs ≡ length xs =
    λ b. elim b as (λ b. nat_lt (position_or_len p xs) (length xs) ≡ b → cond b (Some (position_or_len p xs)) None ≡ None → position_or_len p xs ≡ length xs)
    [ true ↦ λ e q. cc | false ↦ λ e q. omega (arith, ltb-false) ] in
    find-none p xs (by_test _ refl none)

-- the session at the first place that passes: what a search finds, and what changes there
pub found_at : (name : List ℕ) (xs : List Named) (i : ℕ) (d : Named) → i < length xs → is_named name (get_or xs i d) ≡ true
    → ((k : ℕ) → k < i → is_named name (get_or xs k d) ≡ false) → session_of name xs ≡ Some (get_or xs i d)
found_at name [] i d within here before = absurd (omega arith)
found_at name (x ∷ xs) zero d within here before = ap (λ b. cond b (Some x) (session_of name xs)) here
found_at name (x ∷ xs) (suc i) d within here before =
    ap (λ b. cond b (Some x) (session_of name xs)) (before 0 (omega arith)) ∙ found_at name xs i d (omega arith) here (λ k below. before (suc k) (omega arith))

set_at : (name : List ℕ) (xs : List Named) (i : ℕ) (d : Named) (h : Heard) → i < length xs → is_named name (get_or xs i d) ≡ true
    → ((k : ℕ) → k < i → is_named name (get_or xs k d) ≡ false) → with_session name h xs ≡ slice_set xs i (record { name = (get_or xs i d).name; session = h })
set_at name [] i d h within here before = absurd (omega arith)
set_at name (x ∷ xs) zero d h within here before = ap (λ b. cond b (record x { session = h } ∷ xs) (x ∷ with_session name h xs)) here
set_at name (x ∷ xs) (suc i) d h within here before =
    ap (λ b. cond b (record x { session = h } ∷ xs) (x ∷ with_session name h xs)) (before 0 (omega arith))
    ∙ ap (λ ys. x ∷ ys) (set_at name xs i d h (omega arith) here (λ k below. before (suc k) (omega arith)))

gone_at : (name : List ℕ) (xs : List Named) (i : ℕ) (d : Named) → i < length xs → is_named name (get_or xs i d) ≡ true
    → ((k : ℕ) → k < i → is_named name (get_or xs k d) ≡ false) → without name xs ≡ remove xs i
gone_at name [] i d within here before = absurd (omega arith)
gone_at name (x ∷ xs) zero d within here before = ap (λ b. cond b xs (x ∷ without name xs)) here
gone_at name (x ∷ xs) (suc i) d within here before =
    ap (λ b. cond b xs (x ∷ without name xs)) (before 0 (omega arith)) ∙ ap (λ ys. x ∷ ys) (gone_at name xs i d (omega arith) here (λ k below. before (suc k) (omega arith)))

-- a session's name says which it is
pub name_kept : (name : List ℕ) (m : List ℕ) (h : Heard) (xs : List Named) → (session_of m xs ≡ None) → session_of m (with_session name h xs) ≡ None
name_kept name m h [] none = refl
name_kept name m h (x ∷ xs) none =
    elim (is_named name x) as (λ b. session_of m (cond b (record x { session = h } ∷ xs) (x ∷ with_session name h xs)) ≡ None) [
      | true ↦
          elim (is_named m x) as (λ b. cond b (Some x) (session_of m xs) ≡ None → cond b (Some (record x { session = h })) (session_of m xs) ≡ None) [
            | true ↦ λ q. absurd (let no : Some x ≡ None = q in cc)
            | false ↦ λ q. q
          ] none
      | false ↦
          elim (is_named m x) as (λ b. cond b (Some x) (session_of m xs) ≡ None → cond b (Some x) (session_of m (with_session name h xs)) ≡ None) [
            | true ↦ λ q. absurd (let no : Some x ≡ None = q in cc)
            | false ↦ λ q. name_kept name m h xs q
          ] none
    ]

pub apart_with : (name : List ℕ) (h : Heard) (xs : List Named) → AreApart xs → AreApart (with_session name h xs)
apart_with name h [] apart = tt
apart_with name h (x ∷ xs) apart =
    elim (is_named name x) as (λ b. AreApart (cond b (record x { session = h } ∷ xs) (x ∷ with_session name h xs))) [
      | true ↦ apart
      | false ↦ (name_kept name x.name h xs apart.0, apart_with name h xs apart.1)
    ]

gone_none : (name m : List ℕ) (xs : List Named) → session_of m xs ≡ None → session_of m (without name xs) ≡ None
gone_none name m [] none = refl
gone_none name m (x ∷ xs) none =
    elim (is_named m x) as (λ b. cond b (Some x) (session_of m xs) ≡ None → session_of m (cond (is_named name x) xs (x ∷ without name xs)) ≡ None) [
      | true ↦ λ q. absurd (let no : Some x ≡ None = q in cc)
      | false ↦ λ q.
          elim (is_named name x) as (λ b. session_of m (cond b xs (x ∷ without name xs)) ≡ None) [
            | true ↦ q
            | false ↦
                elim (is_named m x) as (λ b. cond b (Some x) (session_of m xs) ≡ None → cond b (Some x) (session_of m (without name xs)) ≡ None) [
                  | true ↦ λ r. absurd (let no : Some x ≡ None = r in cc)
                  | false ↦ λ r. gone_none name m xs r
                ] none
          ]
    ] none

pub apart_without : (name : List ℕ) (xs : List Named) → AreApart xs → AreApart (without name xs)
apart_without name [] apart = tt
apart_without name (x ∷ xs) apart =
    elim (is_named name x) as (λ b. AreApart (cond b xs (x ∷ without name xs))) [
      | true ↦ apart.1
      | false ↦ (gone_none name x.name xs apart.0, apart_without name xs apart.1)
    ]

-- a word is another one, seen from either side
other_as : (v w : List ℕ) (b : Bool) → bytes_eq w v ≡ b → bytes_eq v w ≡ false → b ≡ false
other_as v w true e f = absurd (let no : false ≡ true = sym f ∙ (bytes_eq-Decides v w).1 (sym ((bytes_eq-Decides w v).0 e)) in cc)
other_as v w false e f = refl

pub other : (v w : List ℕ) → bytes_eq v w ≡ false → bytes_eq w v ≡ false
other v w f = other_as v w (bytes_eq w v) refl f

-- a session more
pub session_more : (m : List ℕ) (xs : List Named) (s : Named) → session_of m (xs ++ s ∷ []) ≡ (elim (session_of m xs) [ None ↦ cond (is_named m s) (Some s) None | Some x ↦ Some x ])
session_more m [] s = refl
session_more m (x ∷ xs) s =
    elim (is_named m x) as (λ b. cond b (Some x) (session_of m (xs ++ s ∷ [])) ≡ (elim (cond b (Some x) (session_of m xs)) [ None ↦ cond (is_named m s) (Some s) None | Some x ↦ Some x ])) [
      | true ↦ refl
      | false ↦ session_more m xs s
    ]

apart_front : (xs : List Named) (s x : Named) → session_of x.name xs ≡ None → bytes_eq x.name s.name ≡ false → session_of x.name (xs ++ s ∷ []) ≡ None
apart_front xs s x none apart =
    session_more x.name xs s
    ∙ ap (λ (o : Option Named). elim o as (λ _. Option Named) [ None ↦ cond (is_named x.name s) (Some s) None | Some y ↦ Some y ]) none
    ∙ ap (λ b. cond b (Some s) None) (other x.name s.name apart)

pub apart_more : (xs : List Named) (s : Named) → session_of s.name xs ≡ None → AreApart xs → AreApart (xs ++ s ∷ [])
apart_more [] s none apart = (refl, tt)
apart_more (x ∷ xs) s none apart = by_test (is_named s.name x) refl none (λ e. apart_more xs s e apart.1) where
  by_test : (b : Bool) → is_named s.name x ≡ b → cond b (Some x) (session_of s.name xs) ≡ None → (session_of s.name xs ≡ None → AreApart (xs ++ s ∷ [])) → AreApart (x ∷ xs ++ s ∷ [])
  by_test true is e more = absurd (let no : Some x ≡ None = e in cc)
  by_test false is e more = (apart_front xs s x apart.0 is, more e)

-- the session of a name, where that of a name changes or goes
pub session_with : (name : List ℕ) (h : Heard) (xs : List Named) (s : Named) → session_of name xs ≡ Some s → session_of name (with_session name h xs) ≡ Some (record s { session = h })
session_with name h [] s is = absurd (let no : None ≡ Some s = is in cc)
session_with name h (x ∷ xs) s is = by_test (is_named name x) refl is (λ e. session_with name h xs s e) where
  by_test : (b : Bool) → is_named name x ≡ b → cond b (Some x) (session_of name xs) ≡ Some s
      → (session_of name xs ≡ Some s → session_of name (with_session name h xs) ≡ Some (record s { session = h }))
      → session_of name (cond b (record x { session = h } ∷ xs) (x ∷ with_session name h xs)) ≡ Some (record s { session = h })
  by_test true at e more =
      ap (λ b. cond b (Some (record x { session = h })) (session_of name xs)) at
      ∙ ap (λ (o : Option Named). elim o as (λ _. Option Named) [ None ↦ None | Some y ↦ Some (record y { session = h }) ]) e
  by_test false at e more = ap (λ b. cond b (Some x) (session_of name (with_session name h xs))) at ∙ more e

not_other : (name m : List ℕ) (x : Named) → bytes_eq name m ≡ false → is_named name x ≡ true → is_named m x ≡ false
not_other name m x apart is = ap (λ w. bytes_eq w m) ((bytes_eq-Decides x.name name).0 is) ∙ apart

pub session_other : (name m : List ℕ) (h : Heard) (xs : List Named) → bytes_eq name m ≡ false → session_of m (with_session name h xs) ≡ session_of m xs
session_other name m h [] apart = refl
session_other name m h (x ∷ xs) apart = by_test (is_named name x) refl (session_other name m h xs apart) where
  by_test : (b : Bool) → is_named name x ≡ b → session_of m (with_session name h xs) ≡ session_of m xs
      → session_of m (cond b (record x { session = h } ∷ xs) (x ∷ with_session name h xs)) ≡ session_of m (x ∷ xs)
  by_test true is more =
      ap (λ b. cond b (Some (record x { session = h })) (session_of m xs)) (not_other name m x apart is)
      ∙ sym (ap (λ b. cond b (Some x) (session_of m xs)) (not_other name m x apart is))
  by_test false is more = ap (λ o. cond (is_named m x) (Some x) o) more

pub session_gone : (name : List ℕ) (xs : List Named) → AreApart xs → session_of name (without name xs) ≡ None
session_gone name [] apart = refl
session_gone name (x ∷ xs) apart = by_test (is_named name x) refl (session_gone name xs apart.1) where
  by_test : (b : Bool) → is_named name x ≡ b → session_of name (without name xs) ≡ None → session_of name (cond b xs (x ∷ without name xs)) ≡ None
  by_test true is more = ap (λ m. session_of m xs) (sym ((bytes_eq-Decides x.name name).0 is)) ∙ apart.0
  by_test false is more = ap (λ b. cond b (Some x) (session_of name (without name xs))) is ∙ more

pub session_stays : (name m : List ℕ) (xs : List Named) → bytes_eq name m ≡ false → session_of m (without name xs) ≡ session_of m xs
session_stays name m [] apart = refl
session_stays name m (x ∷ xs) apart = by_test (is_named name x) refl (session_stays name m xs apart) where
  by_test : (b : Bool) → is_named name x ≡ b → session_of m (without name xs) ≡ session_of m xs → session_of m (cond b xs (x ∷ without name xs)) ≡ session_of m (x ∷ xs)
  by_test true is more = sym (ap (λ b. cond b (Some x) (session_of m xs)) (not_other name m x apart is))
  by_test false is more = ap (λ o. cond (is_named m x) (Some x) o) more

-- ---- what the calls use

module _ (name : List ℕ) (xs : List Named) (i : ℕ) (s : Named) (found : position (is_named name) xs ≡ Some i) (at : s ≡ get_or xs i s) where
  p : (i < length xs) × (is_named name (get_or xs i s) ≡ true) × ((k : ℕ) → k < i → is_named name (get_or xs k s) ≡ false)
  p = position-Some (is_named name) xs i s found

  pub found_session : session_of name xs ≡ Some s
  found_session = found_at name xs i s p.0 p.1 p.2 ∙ ap Some (sym at)

  pub found_set : (s' : Named) → s'.name ≡ s.name → slice_set xs i s' ≡ with_session name s'.session xs
  found_set s' same =
      ap (λ w. slice_set xs i (record { name = w; session = s'.session })) (same ∙ ap (λ (t : Named). t.name) at)
      ∙ sym (set_at name xs i s s'.session p.0 p.1 p.2)

  pub found_gone : remove xs i ≡ without name xs
  found_gone = sym (gone_at name xs i s p.0 p.1 p.2)

  pub found_asked : (ask : DeviceAsk) (late : Bool) (answer : Answer) (s' : Named) → s'.name ≡ s.name → Hears s.session ask late answer s'.session
      → Asked name xs ask late answer (slice_set xs i s')
  found_asked ask late answer s' same heard = inr (s, found_session, (s'.session, heard, found_set s' same))

  pub found_apart : (s' : Named) → s'.name ≡ s.name → AreApart xs → AreApart (slice_set xs i s')
  found_apart s' same apart = rw (found_set s' same) (apart_with name s'.session xs apart)

  pub found_ends : (answer : Answer) → IsEnding s.session answer → SessionEnds name xs answer (remove xs i)
  found_ends answer ending = inr (s, found_session, ending, found_gone)

  pub found_left : AreApart xs → AreApart (remove xs i)
  found_left apart = rw found_gone (apart_without name xs apart)

-- a session of which nothing is known
abbrev any : Named
any = record { name = []; session = record { rest = None; state = states.Open; cursor = record { column = 0; row = 0 }; inside = 0; failures = 0; taken = []; given = [] } }

pub present : (name : List ℕ) (xs : List Named) (i : ℕ) → position (is_named name) xs ≡ Some i → is_some (session_of name xs) ≡ true
present name xs i found =
    let p = position-Some (is_named name) xs i any found in
    ap is_some (found_at name xs i any p.0 p.1 p.2)
