use Rattle.std.proofs.Common.{◌≡◌, ◌+◌, reverse, sym, ap, ◌∙◌}
use Rattle.std.specs.Prelude.{Bool, Err, if◌then◌else◌}
use Rattle.mj_text.specs.Failing.{failing}
use Rattle.mj_oper.specs.Operators.{truth_value}
use Rattle.mj_semantics.specs.State.{set_test}
use Rattle.mj_semantics.specs.Outcome.{Timed, change, given, fault}
use Rattle.mj_pcode.specs.Machine.{Next, top, below}
use Rattle.mj_machine.specs.Kept.{context_of, stack_of, state_of}
use Rattle.mj_machine.proofs.Asks.{does_as, given_is, truth_fault}
use Rattle.mj_turn.proofs.flow.set_test.Goals as goal

pub returns-in-Err-Fault-clause-ok : goal.returns-in-Err-Fault-clause-ok
returns-in-Err-Fault-clause-ok c = λ reply all u.
    let old = c.args.machine.now in
    let t : c.top.result.now ≡ top (stack_of old) = c.top.ensures ∙ ap (λ l. top (reverse l)) c.deref.ensures.value in
    let f = c.in-Err-Fault.fault in
    let after : Next → Bool → Timed =
    λ next b. change (set_test b) (if b then next (context_of old) (c.args.pc + 1) (below (stack_of old)) else next (context_of old) c.args.target (below (stack_of old))) in
    let is = truth_fault (truth_value (top (stack_of old))) f
    (sym (c.in-Err-Fault.is ∙ ap Err c.in-Err-Fault.field-0-is) ∙ c.truth.ensures ∙ ap (λ x. failing (truth_value x)) t) in
    does_as (λ next. given (truth_value (top (stack_of old))) (after next)) (λ next. fault f)
    old reply c.fail.result c.fail.new.machine
    (λ next n back replies. given_is (truth_value (top (stack_of old))) (Err f) (after next) n back (state_of old) replies is)
    (c.fail.ensures reply)
