use Rattle.std.proofs.Common.{◌≡◌, [], ◌+◌, drop, sym, ap, ◌∙◌}
use Rattle.std.specs.Prelude.{Ok, Err}
use Rattle.std.proofs.lemmas.Result.{IfOk-weaker}
use Rattle.mj_subs.specs.Name.{Name}
use Rattle.mj_store.specs.declared.access.Access.TheVariants as accesses
use Rattle.mj_semantics.specs.State.{hold}
use Rattle.mj_semantics.specs.Accesses.{access}
use Rattle.mj_semantics.specs.Outcome.{Timed, change, given, fault}
use Rattle.mj_semantics.specs.Evaluation.{name_of}
use Rattle.mj_semantics.specs.Commands.{put_nodes}
use Rattle.mj_pcode.specs.Machine.{Next, operands}
use Rattle.mj_machine.specs.Kept.{context_of, stack_of, state_of, replied}
use Rattle.mj_machine.proofs.Asks.{does_as, given_is}
use Rattle.mj_variable_ops.proofs.Altered.{put_some}
use Rattle.mj_variable_ops.proofs.merges.put.Goals as goal

pub returns-in-Err-clause-ok : goal.returns-in-Err-clause-ok
returns-in-Err-clause-ok c = λ all u.
    let old = c.args.machine.now in
    let r = c.args.reference.now in
    let first = name_of r.scope r.word (operands r.count (stack_of old)) in
    let rest : Next → Name → Timed = λ next x. put_nodes x (next (context_of old) (c.args.pc + 1) (drop r.count (stack_of old))) in
    let is : first ≡ Err c.in-Err.fault = sym c.in_ok-name.ensures ∙ c.in-Err.is in
    does_as (λ next. given first (rest next)) (λ next. fault c.in-Err.fault)
    old (replied c.args.given) c.fail.result c.fail.new.machine
    (λ next n back replies. given_is first (Err c.in-Err.fault) (rest next) n back (state_of old) replies is)
    (c.fail.ensures (replied c.args.given))

pub returns-then-is_global-clause-ok : goal.returns-then-is_global-clause-ok
returns-then-is_global-clause-ok c =
    let old = c.args.machine.now in
    let r = c.args.reference.now in
    let first = name_of r.scope r.word (operands r.count (stack_of old)) in
    let x = c.in-Ok.name in
    let rest : Next → Name → Timed = λ next y. put_nodes y (next (context_of old) (c.args.pc + 1) (drop r.count (stack_of old))) in
    let is : first ≡ Ok x = sym c.in_ok-name.ensures ∙ c.in-Ok.is in
    IfOk-weaker c.put_global.result _ _
    (λ step d all u. does_as (λ next. given first (rest next)) (λ next. access (accesses.Put x old.held) (λ a. change (hold []) (next (context_of old) (c.args.pc + 1) (drop r.count (stack_of old)))))
    old (replied c.args.given) step _
    (λ next n back replies. given_is first (Ok x) (rest next) n back (state_of old) replies is
    ∙ put_some x c.as_slice.result.now (next (context_of old) (c.args.pc + 1) (drop r.count (stack_of old))) n back (state_of old) replies (sym c.as_slice.ensures) (sym c.if-is_empty.ensures)
    ∙ ap (λ l. access (accesses.Put x l) (λ a. change (hold []) (next (context_of old) (c.args.pc + 1) (drop r.count (stack_of old)))) n back (state_of old) replies) c.as_slice.ensures) d)
    c.put_global.ensures.ok

pub returns-clause-ok : goal.returns-clause-ok
returns-clause-ok c =
    let old = c.args.machine.now in
    let r = c.args.reference.now in
    let first = name_of r.scope r.word (operands r.count (stack_of old)) in
    let x = c.in-Ok.name in
    let rest : Next → Name → Timed = λ next y. put_nodes y (next (context_of old) (c.args.pc + 1) (drop r.count (stack_of old))) in
    let is : first ≡ Ok x = sym c.in_ok-name.ensures ∙ c.in-Ok.is in
    IfOk-weaker c.put_local.result _ _
    (λ step d all u. does_as (λ next. given first (rest next)) (λ next. access (accesses.Put x old.held) (λ a. change (hold []) (next (context_of old) (c.args.pc + 1) (drop r.count (stack_of old)))))
    old (replied c.args.given) step _
    (λ next n back replies. given_is first (Ok x) (rest next) n back (state_of old) replies is
    ∙ put_some x c.as_slice.result.now (next (context_of old) (c.args.pc + 1) (drop r.count (stack_of old))) n back (state_of old) replies (sym c.as_slice.ensures) (sym c.if-is_empty.ensures)
    ∙ ap (λ l. access (accesses.Put x l) (λ a. change (hold []) (next (context_of old) (c.args.pc + 1) (drop r.count (stack_of old)))) n back (state_of old) replies) c.as_slice.ensures)
    (d (replied c.args.given)))
    c.put_local.ensures.ok
