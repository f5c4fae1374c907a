use Rattle.std.proofs.Common.{◌≡◌, ◌+◌, map, reverse, refl, Some, ap, ◌∙◌}
use Rattle.mj_pcode.specs.Context.{Context}
use Rattle.mj_pcode.specs.Machine.{handler}
use Rattle.mj_machine.specs.declared.control.Control.TheVariants.{At}
use Rattle.mj_machine.specs.Standing.{given_first}
use Rattle.mj_machine.specs.Contexts.{loop_of, call_of, loops_of, calls_of}
use Rattle.mj_machine.specs.Kept.{context_of, stack_of, state_of, restart_of, standing}
use Rattle.mj_transaction_ops.proofs.Places.{marked_here}
use Rattle.mj_transaction_ops.proofs.marking.mark_restart.Goals as goal

pub returns-clause-ok : goal.returns-clause-ok
returns-clause-ok c = λ given all u.
    let old = c.args.machine.now in
    let here : Context = record { unit = old.unit; loops = loops_of c.in_ok-loops.loops.items; calls = calls_of c.in_ok-calls.calls.items } in
    let loops : loops_of c.in_ok-loops.loops.items ≡ loops_of old.loops.items = ap reverse (c.in_ok-loops.ensures ∙ ap (map loop_of) c.deref.ensures.value) in
    let calls : calls_of c.in_ok-calls.calls.items ≡ calls_of old.calls.items = ap reverse (c.in_ok-calls.ensures ∙ ap (map call_of) c.deref-2.ensures.value) in
    let same : here ≡ context_of old = λ i. record { unit = old.unit; loops = loops i; calls = calls i } in
    (tt, λ n replies. marked_here all (context_of old) here c.args.pc (stack_of old) n (handler all (restart_of old)) (state_of old) (given_first given replies) same)

pub returns-clause-goes : goal.returns-clause-goes
returns-clause-goes c =
    let old = c.args.machine.now in
    let loops : loops_of c.in_ok-loops.loops.items ≡ loops_of old.loops.items = ap reverse (c.in_ok-loops.ensures ∙ ap (map loop_of) c.deref.ensures.value) in
    let calls : calls_of c.in_ok-calls.calls.items ≡ calls_of old.calls.items = ap reverse (c.in_ok-calls.ensures ∙ ap (map call_of) c.deref-2.ensures.value) in
    (refl, λ reply i. record (standing old reply) { control = At (c.args.pc + 1); restart = Some (record { context = record { unit = old.unit; loops = loops i; calls = calls i }; pc = c.args.pc }) })
