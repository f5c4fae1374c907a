use Rattle.std.proofs.Common.{◌≡◌, ℕ, ◌+◌, List, reverse, sym, ap, ◌∙◌}
use Rattle.std.specs.Prelude.{ℤ, Err}
use Rattle.mj_num.specs.Number.{reading}
use Rattle.mj_semantics.specs.Outcome.{Timed, given, fault}
use Rattle.mj_pcode.specs.Machine.{Next, top}
use Rattle.mj_machine.specs.Kept.{context_of, stack_of, state_of}
use Rattle.mj_machine.proofs.Asks.{does_as, given_is}
use Rattle.mj_lock_ops.proofs.hang.number.Goals as goal

pub returns-in-Err : goal.returns-in-Err
returns-in-Err c = λ reply all u.
    let old = c.args.machine.now in
    let t : c.top.result.now ≡ top (stack_of old) = c.top.ensures ∙ ap (λ l. top (reverse l)) c.deref.ensures.value in
    let f = c.in-Err.fault in
    let is : reading (top (stack_of old)) ≡ Err f = sym (sym c.in-Err.is ∙ c.read.ensures ∙ ap reading t) in
    let after : Next → ℤ → Timed = λ next i. next (context_of old) (c.args.pc + 1) (stack_of old) in
    does_as (λ next. given (reading (top (stack_of old))) (after next)) (λ next. fault f) old reply c.fail.result c.fail.new.machine
    (λ next n back replies. given_is (reading (top (stack_of old))) (Err f) (after next) n back (state_of old) replies is)
    (c.fail.ensures reply)
