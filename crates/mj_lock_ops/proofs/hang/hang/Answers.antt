use Rattle.std.proofs.Common.{◌≡◌, ℕ, ◌+◌, List, Bool, true, reverse, sym, ap, ◌∙◌}
use Rattle.std.specs.Prelude.{ℤ, pos, int_lt, Ok, Err, if◌then◌else◌}
use Rattle.mj_text.specs.declared.fault.Fault.TheVariants.{Steps}
use Rattle.mj_num.specs.Number.{reading}
use Rattle.mj_ask.specs.declared.ask.Ask.TheVariants as asks
use Rattle.mj_semantics.specs.Outcome.{Timed, tell, given, fault}
use Rattle.mj_semantics.specs.Sharing.{hang}
use Rattle.mj_pcode.specs.Machine.{Next, top, below}
use Rattle.mj_machine.specs.Kept.{context_of, stack_of, state_of, replied}
use Rattle.mj_machine.proofs.Asks.{does_as, given_is, no_more}
use Rattle.mj_lock_ops.proofs.hang.hang.Goals as goal

pub returns-in-Err-clause-ok : goal.returns-in-Err-clause-ok
returns-in-Err-clause-ok c = λ all u.
    let old = c.args.machine.now in
    let t : c.top.result.now ≡ top (stack_of old) = c.top.ensures ∙ ap (λ l. top (reverse l)) c.deref.ensures.value in
    let f = c.in-Err.fault in
    let is : reading (top (stack_of old)) ≡ Err f = sym (sym c.in-Err.is ∙ c.read.ensures ∙ ap reading t) in
    let rest : Next → Timed = λ next. next (context_of old) (c.args.pc + 1) (below (stack_of old)) in
    let after : Next → ℤ → Timed = λ next i. if int_lt (pos 0) i then tell (asks.Rest i) (rest next) else rest next in
    does_as (λ next. hang (top (stack_of old)) (rest next)) (λ next. fault f) old (replied c.args.given) c.fail.result c.fail.new.machine
    (λ next n back replies. given_is (reading (top (stack_of old))) (Err f) (after next) n back (state_of old) replies is)
    (c.fail.ensures (replied c.args.given))

pub returns-then-machine-clause-ok : goal.returns-then-machine-clause-ok
returns-then-machine-clause-ok c = λ all u.
    let old = c.args.machine.now in
    let t : c.top.result.now ≡ top (stack_of old) = c.top.ensures ∙ ap (λ l. top (reverse l)) c.deref.ensures.value in
    let i = c.in-Ok.time in
    let is : reading (top (stack_of old)) ≡ Ok i = sym (sym c.in-Ok.is ∙ c.read.ensures ∙ ap reading t) in
    let above : int_lt (pos 0) i ≡ true = ap (λ z. int_lt z i) (sym c.from_truth.ensures) ∙ sym c.if-not-is_less.ensures in
    let rest : Next → Timed = λ next. next (context_of old) (c.args.pc + 1) (below (stack_of old)) in
    let after : Next → ℤ → Timed = λ next j. if int_lt (pos 0) j then tell (asks.Rest j) (rest next) else rest next in
    does_as (λ next. hang (top (stack_of old)) (rest next)) (λ next. fault Steps) old (replied c.args.given) c.fail-then-machine.result c.fail-then-machine.new.machine
    (λ next n back replies.
    given_is (reading (top (stack_of old))) (Ok i) (after next) n back (state_of old) replies is
    ∙ ap (λ b. (if b then tell (asks.Rest i) (rest next) else rest next) n back (state_of old) replies) above
    ∙ no_more _ (λ r. rest next) n back (state_of old) replies c.if-machine.true)
    (c.fail-then-machine.ensures (replied c.args.given))
