-- Runs by the wrong rules that aren't as their blocks run alone.
use Rattle.std.proofs.Common.{◌≡◌, inr, ℕ, zero, suc, ◌+◌, ◌≤◌, true, false, List, [], ◌∷◌, Option, Some, None, refl, ap, sym, subst, arith, ne_eqb}
use Rattle.std.specs.Prelude.{◌==◌, codes}
use Rattle.mj_subs.specs.Name.{Name}
use Rattle.mj_store.specs.Questions.{Content}
use Rattle.mj_store.specs.declared.store.Direction.TheVariants.{Forward}
use Rattle.mj_store.specs.declared.access.Access.TheVariants as access
use Rattle.mj_store.specs.declared.access.Answer.TheVariants as answer
use Rattle.mj_ask.specs.declared.ask.Kind.TheVariants as kinds
use Rattle.mj_ask.specs.declared.ask.Ask.{Ask}
use Rattle.mj_ask.specs.declared.ask.Ask.TheVariants as asks
use Rattle.mj_ask.specs.declared.ask.SharedAsk.TheVariants as shared_asks
use Rattle.mj_ask.specs.declared.ask.Reply.{Reply}
use Rattle.mj_ask.specs.declared.ask.Reply.TheVariants as replies
use Rattle.mj_semantics.specs.Outcome.{Needs, Ended}
use Rattle.mj_sys.specs.declared.event.Event.{Event}
use Rattle.mj_sys.specs.History.{History, log_of}
use Rattle.mj_serial.specs.Programs.{Log, Program, IsSteady, AreAsked}
use Rattle.mj_serial.specs.Alone.{Part}
use Rattle.mj_serial.specs.Serial.{AsAlone}
use Rattle.mj_serial.specs.Rules.{ByNames, AfterAll, IsRunBy, IsSerialBy, committed_by}

-- a program that makes these asks, whatever it is told
abbrev pub script : List Ask → Program
script [] n rs = Ended
script (a ∷ asks) n [] = Needs a [] []
script (a ∷ asks) n (r ∷ rs) = script asks n rs

same_turns : (asks : List Ask) (n m : ℕ) (rs : List Reply) → script asks n rs ≡ script asks m rs
same_turns [] n m rs = refl
same_turns (a ∷ asks) n m [] = refl
same_turns (a ∷ asks) n m (r ∷ rs) = same_turns asks n m rs

steady : (asks : List Ask) → IsSteady (script asks)
steady asks n k rs = inr (same_turns asks (n + k) n rs)

-- jobs 0 and 1
abbrev pub two : List Ask → List Ask → ℕ → Program
two a b zero = script a
two a b (suc j) = script b

two_steady : (a b : List Ask) (j : ℕ) → IsSteady (two a b j)
two_steady a b zero = steady a
two_steady a b (suc j) = steady b

abbrev pub event : ℕ → Ask → Reply → Event
event j a r = record { job = j; ask = a; reply = r }

-- the node of ^Q with this subscript
abbrev pub q : List ℕ → Name
q s = record { global = true; word = codes "Q"; subscripts = s ∷ [] }

abbrev pub begin : Ask
begin = asks.Shared (shared_asks.Begin kinds.Serial)

abbrev pub value : Name → Ask
value n = asks.Shared (shared_asks.Access (access.Value n))

abbrev pub sets : Name → List ℕ → Ask
sets n v = asks.Shared (shared_asks.Access (access.Set n v))

-- the first subscript of ^Q
abbrev pub first : Ask
first = asks.Shared (shared_asks.Access (access.Order (q []) Forward))

abbrev pub found : Option (List ℕ) → Reply
found v = replies.Answer (answer.Value v)

abbrev pub comes : Option (List ℕ) → Reply
comes s = replies.Answer (answer.Order s)

abbrev pub done : Reply
done = replies.Answer answer.Done

-- no other job does anything in a history of two
pub no_other : (j : ℕ) → (0 == suc (suc j)) ≡ false
no_other j = ne_eqb 0 (suc (suc j)) (λ e. absurd (omega arith))

pub no_other_one : (j : ℕ) → (1 == suc (suc j)) ≡ false
no_other_one j = ne_eqb 1 (suc (suc j)) (λ e. absurd (omega arith))

-- ---- a phantom: job 0 looks for the first subscript, and then job 1 sets one

abbrev pub one : List ℕ
one = codes "1"

abbrev pub looks : List Ask
looks = begin ∷ first ∷ (asks.Shared shared_asks.Commit) ∷ []

abbrev pub adds : List Ask
adds = sets (q one) one ∷ []

abbrev pub phantom : History
phantom = event 0 begin replies.Done ∷ event 0 first (comes None) ∷ event 1 (sets (q one) one) done ∷ event 0 (asks.Shared shared_asks.Commit) replies.Done ∷ []

pub phantom_asked : (j : ℕ) → AreAsked (two looks adds j) [] (log_of j phantom)
phantom_asked zero = ((0, [], [], refl), ((0, [], [], refl), ((0, [], [], refl), tt)))
phantom_asked (suc zero) = ((0, [], [], refl), tt)
phantom_asked (suc (suc j)) =
    let none : log_of (suc (suc j)) phantom ≡ [] = rw (no_other j, no_other_one j) refl in subst (AreAsked (script adds) []) (sym none) tt

phantom_run : IsRunBy ByNames (two looks adds) [] phantom
phantom_run = record { told = (tt, (refl, (refl, (((λ e. absurd cc), tt), tt)))); asked = phantom_asked }

abbrev first_part : List Part → Log
first_part [] = []
first_part (p ∷ ps) = p.0

abbrev first_reply : Log → Option Reply
first_reply [] = None
first_reply (e ∷ es) = Some e.1

pub names_are_not_enough : IsSerialBy ByNames → ⊥
names_are_not_enough claim = no (claim (two looks adds) [] phantom (two_steady looks adds) phantom_run)
  where
    no : AsAlone (two looks adds) [] (committed_by [] phantom) phantom → ⊥
    no x =
        let le : x.turns ≤ suc (suc (suc (suc x.turns))) = omega arith in
        let e : Some (comes (Some one)) ≡ Some (comes None) = ap (λ w. first_reply (first_part w.serial)) (x.same (suc (suc (suc (suc x.turns)))) le) in
        absurd cc

-- ---- job 0 reads 5 and sets 5, and in between job 1 sets the empty text: after all own writes the read has its old answer

abbrev five : List ℕ
five = codes "5"

abbrev blank : List ℕ
blank = []

abbrev rewrites : List Ask
rewrites = begin ∷ value (q one) ∷ sets (q one) five ∷ (asks.Shared shared_asks.Commit) ∷ []

abbrev changes : List Ask
changes = sets (q one) blank ∷ []

abbrev fives : Content
fives = (q one, five) ∷ []

abbrev hidden : History
hidden = event 0 begin replies.Done ∷ event 0 (value (q one)) (found (Some five)) ∷ event 1 (sets (q one) blank) done
    ∷ event 0 (sets (q one) five) done ∷ event 0 (asks.Shared shared_asks.Commit) replies.Done ∷ []

hidden_asked : (j : ℕ) → AreAsked (two rewrites changes j) [] (log_of j hidden)
hidden_asked zero = ((0, [], [], refl), ((0, [], [], refl), ((0, [], [], refl), ((0, [], [], refl), tt))))
hidden_asked (suc zero) = ((0, [], [], refl), tt)
hidden_asked (suc (suc j)) =
    let none : log_of (suc (suc j)) hidden ≡ [] = rw (no_other j, no_other_one j) refl in subst (AreAsked (script changes) []) (sym none) tt

hidden_run : IsRunBy AfterAll (two rewrites changes) fives hidden
hidden_run = record { told = (tt, (refl, (refl, (refl, (((λ e. refl), ((λ e. absurd cc), tt)), tt))))); asked = hidden_asked }

pub after_all_is_late : IsSerialBy AfterAll → ⊥
after_all_is_late claim = no (claim (two rewrites changes) fives hidden (two_steady rewrites changes) hidden_run)
  where
    no : AsAlone (two rewrites changes) fives (committed_by fives hidden) hidden → ⊥
    no x =
        let le : x.turns ≤ suc (suc (suc (suc (suc x.turns)))) = omega arith in
        let e : Some (found (Some blank)) ≡ Some (found (Some five)) = ap (λ w. first_reply (first_part w.serial)) (x.same (suc (suc (suc (suc (suc x.turns))))) le) in
        absurd cc
