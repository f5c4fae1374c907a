use Rattle.std.proofs.Common.{◌≡◌, ◌+◌, true, false, Some, None, Result, drop, refl, sym, ap, ◌∙◌}
use Rattle.std.specs.Prelude.{Ok, Err, if◌then◌else◌}
use Rattle.std.proofs.lemmas.Result.{IfOk-weaker}
use Rattle.mj_text.specs.declared.fault.Fault.TheVariants.{Overlap}
use Rattle.mj_subs.specs.Name.{Name, overlaps}
use Rattle.mj_variable_ops.specs.Answers.{refusal}
use Rattle.mj_text.specs.declared.fault.Fault.{Fault}
use Rattle.mj_store.specs.declared.access.Access.TheVariants as accesses
use Rattle.mj_semantics.specs.State.{hold}
use Rattle.mj_semantics.specs.Accesses.{access, nodes_told}
use Rattle.mj_semantics.specs.Outcome.{Timed, change, given, fault}
use Rattle.mj_semantics.specs.Evaluation.{name_of}
use Rattle.mj_semantics.specs.Commands.{take_nodes}
use Rattle.mj_pcode.specs.Machine.{Next, operands}
use Rattle.mj_machine.specs.Kept.{context_of, stack_of, state_of, replied}
use Rattle.mj_machine.proofs.Asks.{does_as, given_is}
use Rattle.mj_variable_ops.proofs.merges.take.Goals as goal

pub returns-in-Err-clause-ok : goal.returns-in-Err-clause-ok
returns-in-Err-clause-ok c = λ all u.
    let old = c.args.machine.now in
    let f = c.args.from.now in
    let a = c.args.into.now in
    let first = name_of f.scope f.word (operands f.count (stack_of old)) in
    let second = name_of a.scope a.word (operands a.count (drop f.count (stack_of old))) in
    let rest : Next → Name → Name → Timed = λ next y x. take_nodes x y (next (context_of old) (c.args.pc + 1) (drop f.count (stack_of old))) in
    let is : first ≡ Err c.in-Err.fault = sym c.in_ok-name.ensures ∙ c.in-Err.is in
    does_as (λ next. given first (λ y. given second (rest next y))) (λ next. fault c.in-Err.fault)
    old (replied c.args.given) c.fail.result c.fail.new.machine
    (λ next n back replies. given_is first (Err c.in-Err.fault) (λ y. given second (rest next y)) n back (state_of old) replies is)
    (c.fail.ensures (replied c.args.given))

-- why the nodes can't go there is the fault
refused : (second : Result Name Fault) (y : Name) (f : Fault) (rest : Timed) → refusal second y ≡ Some f → given second (λ x. take_nodes x y rest) ≡ fault f
refused (Err g) y f rest e = ap fault cc
refused (Ok x) y f rest e =
    elim (overlaps x y) as (λ b. (if b then Some Overlap else None) ≡ Some f → (if b then fault Overlap else access (accesses.Subtree y) (λ r. change (hold (nodes_told r)) rest)) ≡ fault f) [
      | true ↦ λ h. ap fault cc
      | false ↦ λ h. absurd cc
    ] e

-- where they can, they are taken
allowed : (second : Result Name Fault) (y : Name) (rest : Timed) → refusal second y ≡ None
    → given second (λ x. take_nodes x y rest) ≡ access (accesses.Subtree y) (λ r. change (hold (nodes_told r)) rest)
allowed (Err g) y rest e = absurd cc
allowed (Ok x) y rest e =
    elim (overlaps x y) as (λ b. (if b then Some Overlap else None) ≡ None
    → (if b then fault Overlap else access (accesses.Subtree y) (λ r. change (hold (nodes_told r)) rest)) ≡ access (accesses.Subtree y) (λ r. change (hold (nodes_told r)) rest)) [
      | true ↦ λ h. absurd cc
      | false ↦ λ h. refl
    ] e

pub returns-in-Ok-Some-clause-ok : goal.returns-in-Ok-Some-clause-ok
returns-in-Ok-Some-clause-ok c = λ all u.
    let old = c.args.machine.now in
    let f = c.args.from.now in
    let a = c.args.into.now in
    let y = c.in-Ok.name in
    let first = name_of f.scope f.word (operands f.count (stack_of old)) in
    let second = name_of a.scope a.word (operands a.count (drop f.count (stack_of old))) in
    let rest : Next → Timed = λ next. next (context_of old) (c.args.pc + 1) (drop f.count (stack_of old)) in
    let is : first ≡ Ok y = sym c.in_ok-name.ensures ∙ c.in-Ok.is in
    let why : refusal second y ≡ Some c.in-Ok-Some.fault = sym c.in-Ok-Some.ensures ∙ c.in-Ok-Some.field-0-is in
    does_as (λ next. given first (λ y. given second (λ x. take_nodes x y (rest next)))) (λ next. fault c.in-Ok-Some.fault)
    old (replied c.args.given) c.fail-in-Ok-Some.result c.fail-in-Ok-Some.new.machine
    (λ next n back replies. given_is first (Ok y) (λ y. given second (λ x. take_nodes x y (rest next))) n back (state_of old) replies is
    ∙ ap (λ (t : Timed). t n back (state_of old) replies) (refused second y c.in-Ok-Some.fault (rest next) why))
    (c.fail-in-Ok-Some.ensures (replied c.args.given))

pub returns-in-Ok-None-clause-ok : goal.returns-in-Ok-None-clause-ok
returns-in-Ok-None-clause-ok c =
    let old = c.args.machine.now in
    let f = c.args.from.now in
    let a = c.args.into.now in
    let y = c.in-Ok.name in
    let first = name_of f.scope f.word (operands f.count (stack_of old)) in
    let second = name_of a.scope a.word (operands a.count (drop f.count (stack_of old))) in
    let rest : Next → Timed = λ next. next (context_of old) (c.args.pc + 1) (drop f.count (stack_of old)) in
    let is : first ≡ Ok y = sym c.in_ok-name.ensures ∙ c.in-Ok.is in
    let none : refusal second y ≡ None = sym c.in-Ok-None.ensures ∙ c.in-Ok-None.field-0-is in
    IfOk-weaker c.take_named.result _ _
    (λ step d all u. does_as (λ next. given first (λ y. given second (λ x. take_nodes x y (rest next)))) (λ next. access (accesses.Subtree y) (λ r. change (hold (nodes_told r)) (rest next)))
    old (replied c.args.given) step _
    (λ next n back replies. given_is first (Ok y) (λ y. given second (λ x. take_nodes x y (rest next))) n back (state_of old) replies is
    ∙ ap (λ (t : Timed). t n back (state_of old) replies) (allowed second y (rest next) none)) d)
    c.take_named.ensures.ok
