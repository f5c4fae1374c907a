-- What a turn of LOCK or JOB does, by what its operands ask for.
use Rattle.std.proofs.Common.{◌≡◌, ℕ, zero, ◌<◌, ◌≤◌, suc, ◌+◌, List, [], ◌∷◌, ◌++◌, length, drop, append_assoc, Option, Some, None, Bool, true, false, Result, Ok, Err, refl, ap, ◌∙◌, arith}
use Rattle.std.specs.Prelude.{ℤ, not, nat_lt, if◌then◌else◌}
use Rattle.std.proofs.lemmas.Bool.{lt-ltb}
use Rattle.mj_text.specs.declared.fault.Fault.{Fault}
use Rattle.mj_text.specs.declared.fault.Fault.TheVariants.{InTransaction}
use Rattle.mj_text.specs.Failing.{then_value}
use Rattle.mj_num.specs.Number.{reading}
use Rattle.mj_subs.specs.Name.{Name}
use Rattle.mj_ask.specs.declared.ask.Reply.{Reply}
use Rattle.mj_semantics.specs.State.{State, counted}
use Rattle.mj_semantics.specs.Outcome.{Handler, Timed, ask, given, fault}
use Rattle.mj_semantics.specs.Sharing.{served, in_time, out_of_transaction, take_names, give_names}
use Rattle.mj_pcode.specs.declared.instr.Reference.{Reference}
use Rattle.mj_pcode.specs.declared.instr.Wait.{Wait}
use Rattle.mj_pcode.specs.declared.instr.Wait.TheVariants.{Ever, Timed as Limited}
use Rattle.mj_semantics.specs.Evaluation.{name_of}
use Rattle.mj_pcode.specs.Machine.{Stack, top, wait_size, waits, counts, names_on, operands}
use Rattle.mj_machine.proofs.Asks.{one_more}
use Rattle.mj_pcode.specs.declared.instr.Unit.{Unit}
use Rattle.mj_machine.specs.declared.machine.Machine.{Machine}
use Rattle.mj_machine.specs.declared.machine.TurnOutcome.{TurnOutcome}
use Rattle.mj_machine.specs.Kept.{context_of, stack_of, Does, Obeys}
use Rattle.mj_lock_ops.specs.Wanted.{timeout_in, test_after, refused, wanted_in, ask_of, lock_of}

-- how long an ask may wait is known before the rest
pub waits_known : (w : Wait) (stack : Stack) (f : Option ℤ → Timed) (n : ℕ) → waits w stack f n ≡ given (timeout_in w stack) f n
waits_known Ever stack f n = refl
waits_known Limited stack f n = by (reading (top stack))
  where
    by : (r : Result ℤ Fault) → given r (λ i. f (Some i)) n ≡ given (then_value r (λ i. Ok (Some i))) f n
    by (Ok i) = refl
    by (Err e) = refl

-- what is done with what LOCK is to take or give up
abbrev pub with_wanted : (List Name → Option ℤ → Timed) → Option ℤ × List Name → Timed
with_wanted f p = f p.1 p.0

-- what LOCK is to take or give up is known before the rest
pub wanted_known : (rs : List Reference) (w : Wait) (stack : Stack) (f : List Name → Option ℤ → Timed) (n : ℕ) (back : Handler) (s : State) (replies : List Reply)
    → waits w stack (λ y. given (names_on rs (drop (wait_size w) stack)) (λ xs. f xs y)) n back s replies
    ≡ given (wanted_in rs w stack) (with_wanted f) n back s replies
wanted_known rs w stack f n back s replies =
    ap (λ q. q back s replies) (waits_known w stack (λ y. given (names_on rs (drop (wait_size w) stack)) (λ xs. f xs y)) n) ∙ by (timeout_in w stack)
  where
    named : (y : Option ℤ) (r : Result (List Name) Fault)
        → given r (λ xs. f xs y) n back s replies ≡ given {A = Option ℤ × List Name} (then_value r (λ xs. Ok (y, xs))) (with_wanted f) n back s replies
    named y (Ok xs) = refl
    named y (Err e) = refl

    by : (t : Result (Option ℤ) Fault) → given t (λ y. given (names_on rs (drop (wait_size w) stack)) (λ xs. f xs y)) n back s replies
        ≡ given {A = Option ℤ × List Name} (then_value t (λ y. then_value (names_on rs (drop (wait_size w) stack)) (λ xs. Ok (y, xs)))) (with_wanted f)
        n back s replies
    by (Ok y) = named y (names_on rs (drop (wait_size w) stack))
    by (Err e) = refl

-- what LOCK does is what it does with what it is to take or give up
pub wanted_is : (rs : List Reference) (w : Wait) (stack : Stack) (f : List Name → Option ℤ → Timed) (found : Result (Option ℤ × List Name) Fault)
    (n : ℕ) (back : Handler) (s : State) (replies : List Reply) → wanted_in rs w stack ≡ found
    → waits w stack (λ y. given (names_on rs (drop (wait_size w) stack)) (λ xs. f xs y)) n back s replies ≡ given found (with_wanted f) n back s replies
wanted_is rs w stack f found n back s replies e =
    wanted_known rs w stack f n back s replies ∙ ap (λ r. given r (with_wanted f) n back s replies) e

-- `$TEST` behind an ask
pub test_is : (timeout : Option ℤ) (late : Bool) (s : State) → record s { test = test_after timeout late s.test } ≡ in_time timeout (not late) s
test_is None late s = refl
test_is (Some n) late s = refl

-- what LOCK does with names: it takes them, or gives them up
abbrev pub takes_or_gives : Bool → List Name → Option ℤ → Timed → Timed
takes_or_gives true xs timeout rest = take_names xs timeout rest
takes_or_gives false xs timeout rest = give_names xs timeout rest

-- names of which there is one at least are asked for
pub some_asked : (takes : Bool) (xs : List Name) (timeout : Option ℤ) (rest : Timed) → 0 < length xs
    → takes_or_gives takes xs timeout rest ≡ ask (ask_of takes xs timeout) (λ r. served timeout r rest)
some_asked true [] timeout rest lt = absurd (omega (arith, lt))
some_asked true (x ∷ xs) timeout rest lt = refl
some_asked false [] timeout rest lt = absurd (omega (arith, lt))
some_asked false (x ∷ xs) timeout rest lt = refl

-- where there is none, nothing is done
pub none_asked : (takes : Bool) (timeout : Option ℤ) (rest : Timed) → takes_or_gives takes [] timeout rest ≡ rest
none_asked true timeout rest = refl
none_asked false timeout rest = refl

-- what LOCK does with names that are taken, or given up, is what its instruction does
pub obeys_lock : (takes : Bool) (rs : List Reference) (w : Wait) (pc : ℕ) (old : Machine) (told : Option Reply) (step : TurnOutcome) (new : Machine)
    → ((all : List Unit) (u : Unit) → Does (λ next. waits w (stack_of old) (λ timeout. given (names_on rs (drop (wait_size w) (stack_of old)))
    (λ xs. takes_or_gives takes xs timeout (next (context_of old) (pc + 1) (drop (counts rs + wait_size w) (stack_of old)))))) old told step new)
    → Obeys (lock_of takes rs w) pc old told step new
obeys_lock true rs w pc old told step new h = h
obeys_lock false rs w pc old told step new h = h

-- the names of what is left of some variables have no more subscripts
pub counts_left : (rs : List Reference) (i : ℕ) → counts (drop i rs) ≤ counts rs
counts_left rs zero = omega arith
counts_left [] (suc i) = omega arith
counts_left (r ∷ rs) (suc i) = omega (arith, counts_left rs i)

abbrev first_of : Reference → List Reference → Stack → Result Name Fault
first_of r rs stack = name_of r.scope r.word (operands r.count (drop (counts rs) stack))

-- a name that isn't one
pub names_fault : (r : Reference) (rs : List Reference) (stack : Stack) (f : Fault) → first_of r rs stack ≡ Err f → names_on (r ∷ rs) stack ≡ Err f
names_fault r rs stack f e = ap (λ o. then_value o (λ x. then_value (names_on rs stack) (λ xs. Ok (x ∷ xs)))) e

-- one more name
pub names_step : (r : Reference) (rs : List Reference) (stack : Stack) (x : Name) → first_of r rs stack ≡ Ok x → names_on (r ∷ rs) stack ≡ then_value (names_on rs stack) (λ xs. Ok (x ∷ xs))
names_step r rs stack x e = ap (λ o. then_value o (λ y. then_value (names_on rs stack) (λ ys. Ok (y ∷ ys)))) e

pub names_grow : (r : Result (List Name) Fault) (old new : List Name) (x : Name) → new ≡ old ++ x ∷ []
    → then_value r (λ xs. Ok (new ++ xs)) ≡ then_value (then_value r (λ xs. Ok (x ∷ xs))) (λ xs. Ok (old ++ xs))
names_grow (Ok xs) old new x e = ap Ok (ap (λ l. l ++ xs) e ∙ append_assoc old (x ∷ []) xs)
names_grow (Err f) old new x e = refl

-- In a transaction, and outside one.
pub in_it : (rest : Timed) (n : ℕ) (back : Handler) (s : State) (replies : List Reply) → 0 < s.level → out_of_transaction rest n back s replies ≡ fault InTransaction n back s replies
in_it rest n back s replies h = ap (λ b. (if b then fault InTransaction else rest) n back s replies) (lt-ltb 0 s.level h)

pub outside_it : (rest : Timed) (n : ℕ) (back : Handler) (s : State) (replies : List Reply) → s.level ≡ 0 → out_of_transaction rest n back s replies ≡ rest n back s replies
outside_it rest n back s replies e = ap (λ k. (if nat_lt 0 k then fault InTransaction else rest) n back s replies) e

-- the names of variables, where all have names
abbrev pub names_told : Result (List Name) Fault → List Name
names_told (Ok xs) = xs
names_told (Err f) = []

pub all_named : (r : Result (List Name) Fault) → refused r ≡ None → r ≡ Ok (names_told r)
all_named (Ok xs) e = refl
all_named (Err f) e = absurd cc

pub not_all_named : (r : Result (List Name) Fault) (f : Fault) → refused r ≡ Some f → r ≡ Err f
not_all_named (Ok xs) f e = absurd cc
not_all_named (Err g) f e = cc

-- where one name more is one, the others tell whether one of them is none
pub refused_step : (r : Reference) (rs : List Reference) (stack : Stack) (x : Name) → first_of r rs stack ≡ Ok x → refused (names_on (r ∷ rs) stack) ≡ refused (names_on rs stack)
refused_step r rs stack x e = ap refused (names_step r rs stack x e) ∙ by (names_on rs stack)
  where
    by : (q : Result (List Name) Fault) → refused (then_value q (λ xs. Ok (x ∷ xs))) ≡ refused q
    by (Ok xs) = refl
    by (Err f) = refl

-- variables of which there is one at least have a name
pub some_named : (rs : List Reference) (stack : Stack) → 0 < length rs → refused (names_on rs stack) ≡ None → 0 < length (names_told (names_on rs stack))
some_named [] stack some none = absurd (omega (arith, some))
some_named (r ∷ rs) stack some none = by (first_of r rs stack) (names_on rs stack) none
  where
    by : (a : Result Name Fault) (b : Result (List Name) Fault) → refused (then_value a (λ x. then_value b (λ xs. Ok (x ∷ xs)))) ≡ None
        → 0 < length (names_told (then_value a (λ x. then_value b (λ xs. Ok (x ∷ xs)))))
    by (Ok x) (Ok xs) h = omega arith
    by (Ok x) (Err f) h = absurd cc
    by (Err f) b h = absurd cc

-- what LOCK is to take or give up, by how long that may take and by its names
pub wanted_of : (rs : List Reference) (w : Wait) (stack : Stack) (y : Option ℤ) (r : Result (List Name) Fault)
    → timeout_in w stack ≡ Ok y → names_on rs (drop (wait_size w) stack) ≡ r → wanted_in rs w stack ≡ then_value r (λ xs. Ok (y, xs))
wanted_of rs w stack y r t e =
    let named : Result (List Name) Fault → Option ℤ → Result (Option ℤ × List Name) Fault = λ q z. then_value q (λ xs. Ok (z, xs)) in
    ap (λ q. then_value q (named (names_on rs (drop (wait_size w) stack)))) t ∙ ap (λ q. named q y) e

pub wanted_late : (rs : List Reference) (w : Wait) (stack : Stack) (f : Fault) → timeout_in w stack ≡ Err f → wanted_in rs w stack ≡ Err f
wanted_late rs w stack f t =
    let named : Option ℤ → Result (Option ℤ × List Name) Fault = λ z. then_value (names_on rs (drop (wait_size w) stack)) (λ xs. Ok (z, xs)) in
    ap (λ q. then_value q named) t

-- one at least is taken, or given up, by the reply
pub asked_told : (takes : Bool) (xs : List Name) (y : Option ℤ) (rest : Timed) (n : ℕ) (back : Handler) (s : State) (r : Reply) (replies : List Reply) → 0 < length xs
    → s.replied < s.bounds.events → takes_or_gives takes xs y rest n back s (r ∷ replies) ≡ served y r rest n back (counted s) replies
asked_told takes xs y rest n back s r replies some few =
    ap (λ q. q n back s (r ∷ replies)) (some_asked takes xs y rest some) ∙ one_more (ask_of takes xs y) (λ p. served y p rest) n back s (r ∷ replies) few
