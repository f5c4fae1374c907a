-- What it is to mark where a restart goes on, and to go on there.
use Rattle.std.proofs.Common.{◌≡◌, ℕ, ◌+◌, List, [], ◌∷◌, ◌++◌, map, take, Option, Some, sym, ap, ◌∙◌}
use Rattle.std.specs.Prelude.{if◌then◌else◌}
use Rattle.std.proofs.lemmas.Bool.{le-leb}
use Rattle.std.proofs.lemmas.List.{map-append}
use Rattle.mj_ask.specs.declared.ask.Reply.{Reply}
use Rattle.mj_semantics.specs.State.{State}
use Rattle.mj_semantics.specs.Outcome.{Outcome, More, Handler, Timed, no_restart, until, restartable}
use Rattle.mj_pcode.specs.declared.instr.Unit.{Unit}
use Rattle.mj_pcode.specs.Context.{Context}
use Rattle.mj_pcode.specs.Machine.{Stack, Next, exec, handler}
use Rattle.mj_pcode.proofs.Deep.{deep_enough, hands_on}
use Rattle.mj_machine.specs.declared.machine.Machine.{Machine}
use Rattle.mj_machine.specs.declared.machine.TurnOutcome.{TurnOutcome}
use Rattle.mj_machine.specs.declared.machine.TurnOutcome.TheVariants as steps
use Rattle.mj_machine.specs.Kept.{Does}
use Rattle.mj_transaction_ops.specs.Restarts.{DoesAmong}

-- one more that looks the same
pub mapped_next : {A B : Type 0} (f : A → B) (xs rows : List A) (k : ℕ) (x y : A) → map f rows ≡ map f (take k xs) → take (k + 1) xs ≡ take k xs ++ x ∷ [] → f y ≡ f x
    → map f (rows ++ y ∷ []) ≡ map f (take (k + 1) xs)
mapped_next f xs rows k x y is one same =
    map-append f rows (y ∷ []) ∙ (λ i. is i ++ same i ∷ []) ∙ sym (map-append f (take k xs) (x ∷ [])) ∙ sym (ap (map f) one)

-- a turn does among units what it does among others
pub does_among : (all : List Unit) (body : Next → Timed) (old : Machine) (given : Option Reply) (step : TurnOutcome) (new : Machine) → Does body old given step new
    → DoesAmong all body old given step new
does_among all body old given steps.Next new d = (d.0, λ n replies. d.1 (exec all n) n (handler all) replies)
does_among all body old given steps.Took new d = (d.0, λ n replies. d.1 (exec all n) n (handler all) replies)
does_among all body old given (steps.Asks a) new d = d
does_among all body old given steps.Ends new d = d

-- what the machine hands on is what is said of a restart, for as many turns as are left
pub marked_here : (all : List Unit) (c d : Context) (pc : ℕ) (stack : Stack) (n : ℕ) (h : Handler) (s : State) (replies : List Reply) → d ≡ c
    → restartable (exec all n c pc []) (exec all n c (pc + 1) stack) n h s replies ≡ exec all n c (pc + 1) stack n (handler all (Some (record { context = d; pc = pc }))) s replies
marked_here all c d pc stack n h s replies same =
    let none : State → List Reply → Outcome = λ t rs. More in
    hands_on all n c (pc + 1) stack (until n (exec all n c pc [])) (handler all (Some (record { context = d; pc = pc }))) s replies (λ m le.
    ap (λ b. if b then exec all n c pc [] m no_restart else none) (le-leb m n le)
    ∙ ap (λ (q : Handler → State → List Reply → Outcome). q no_restart) (deep_enough all n m c pc [] le)
    ∙ ap (λ (x : Context). exec all m x pc [] m no_restart) (sym same))
