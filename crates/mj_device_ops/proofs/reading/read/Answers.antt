use Rattle.std.proofs.Common.{◌≡◌, ℕ, ◌+◌, ◌∷◌, List, drop, reverse, Option, Ok, Err, sym, ap, ◌∙◌}
use Rattle.std.specs.Prelude.{ℤ}
use Rattle.mj_text.specs.declared.fault.Fault.TheVariants.{Steps}
use Rattle.mj_semantics.specs.Outcome.{Timed, fault}
use Rattle.mj_semantics.specs.Devices.{read_input}
use Rattle.mj_pcode.specs.Machine.{Next, Stack, waits, wait_size}
use Rattle.mj_machine.specs.Kept.{context_of, stack_of, state_of, replied}
use Rattle.mj_machine.proofs.Asks.{does_as, given_is, no_more}
use Rattle.mj_lock_ops.specs.Wanted.{timeout_in}
use Rattle.mj_lock_ops.proofs.Wanting.{waits_known}
use Rattle.mj_device_ops.specs.Talked.{input_taken}
use Rattle.mj_device_ops.proofs.reading.read.Goals as goal

pub returns-in-Err-clause-ok : goal.returns-in-Err-clause-ok
returns-in-Err-clause-ok c = λ all u.
    let old = c.args.machine.now in
    let w = c.args.wait in
    let m = c.args.mode in
    let st : Stack = stack_of old in
    let rest : Next → List ℕ → Timed = λ next v. next (context_of old) (c.args.pc + 1) (v ∷ drop (wait_size w) st) in
    let after : Next → Option ℤ → Timed = λ next y. read_input m y (rest next) in
    let f = c.in-Err.fault in
    let t : timeout_in w st ≡ Err f = sym (sym c.in-Err.is ∙ c.timeout_of.ensures ∙ ap (λ l. timeout_in w (reverse l)) c.deref.ensures.value) in
    does_as (λ next. waits w st (after next)) (λ next. fault f) old (replied c.args.given) c.fail.result c.fail.new.machine
    (λ next n back replies. ap (λ q. q back (state_of old) replies) (waits_known w st (after next) n) ∙ given_is (timeout_in w st) (Err f) (after next) n back (state_of old) replies t)
    (c.fail.ensures (replied c.args.given))

pub returns-then-machine-clause-ok : goal.returns-then-machine-clause-ok
returns-then-machine-clause-ok c = λ all u.
    let old = c.args.machine.now in
    let w = c.args.wait in
    let m = c.args.mode in
    let st : Stack = stack_of old in
    let rest : Next → List ℕ → Timed = λ next v. next (context_of old) (c.args.pc + 1) (v ∷ drop (wait_size w) st) in
    let after : Next → Option ℤ → Timed = λ next y. read_input m y (rest next) in
    let z = c.in-Ok.timeout in
    let name = old.devices.current in
    let t : timeout_in w st ≡ Ok z = sym (sym c.in-Ok.is ∙ c.timeout_of.ensures ∙ ap (λ l. timeout_in w (reverse l)) c.deref.ensures.value) in
    does_as (λ next. waits w st (after next)) (λ next. fault Steps) old (replied c.args.given) c.fail-then-machine.result c.fail-then-machine.new.machine
    (λ next n back replies. ap (λ q. q back (state_of old) replies) (waits_known w st (after next) n)
    ∙ given_is (timeout_in w st) (Ok z) (after next) n back (state_of old) replies t
    ∙ no_more _ (λ r. input_taken name m z r (rest next)) n back (state_of old) replies c.if-machine.true)
    (c.fail-then-machine.ensures (replied c.args.given))
