use Rattle.std.proofs.Common.{◌≡◌, ℕ, ◌+◌, List, true, false, drop, reverse, Option, Ok, Err, sym, ap, ◌∙◌, arith}
use Rattle.std.specs.Prelude.{ℤ}
use Rattle.mj_text.specs.declared.fault.Fault.TheVariants.{Steps, Limit}
use Rattle.mj_semantics.specs.State.{is_open}
use Rattle.mj_semantics.specs.Outcome.{Timed, change, fault}
use Rattle.mj_semantics.specs.Sharing.{in_time}
use Rattle.mj_semantics.specs.Devices.{request_device, obtained}
use Rattle.mj_pcode.specs.Machine.{Next, Stack, top, waits, wait_size}
use Rattle.mj_machine.specs.Kept.{context_of, stack_of, state_of, replied}
use Rattle.mj_machine.specs.declared.machine.TurnOutcome.TheVariants as steps
use Rattle.mj_machine.proofs.Asks.{does_as, given_is, no_more}
use Rattle.mj_lock_ops.specs.Wanted.{timeout_in}
use Rattle.mj_lock_ops.proofs.Wanting.{waits_known}
use Rattle.mj_device_ops.specs.Talked.{past}
use Rattle.mj_device_ops.proofs.Talking.{obtain_open, obtain_limit, obtain_asks}
use Rattle.mj_device_ops.proofs.opening.open_device.Goals as goal

pub returns-in-Err-clause-ok : goal.returns-in-Err-clause-ok
returns-in-Err-clause-ok c = λ all u.
    let old = c.args.machine.now in
    let w = c.args.wait in
    let st : Stack = stack_of old in
    let name : List ℕ = top (drop (wait_size w) st) in
    let late : Next → Timed = λ next. next (context_of old) (c.args.pc + 2) (drop (1 + wait_size w) st) in
    let got : Next → Timed = λ next. next (context_of old) (c.args.pc + 1) (drop (wait_size w) st) in
    let after : Next → Option ℤ → Timed = λ next y. request_device name y (late next) (got next) in
    let f = c.in-Err.fault in
    let t : timeout_in w st ≡ Err f = sym (sym c.in-Err.is ∙ c.timeout_of.ensures ∙ ap (λ l. timeout_in w (reverse l)) c.deref.ensures.value) in
    does_as (λ next. waits w st (after next)) (λ next. fault f) old (replied c.args.given) c.fail.result c.fail.new.machine
    (λ next n back replies. ap (λ q. q back (state_of old) replies) (waits_known w st (after next) n) ∙ given_is (timeout_in w st) (Err f) (after next) n back (state_of old) replies t)
    (c.fail.ensures (replied c.args.given))

pub returns-then-has-clause-ok : goal.returns-then-has-clause-ok
returns-then-has-clause-ok c = λ all u.
    let old = c.args.machine.now in
    let w = c.args.wait in
    let st : Stack = stack_of old in
    let name : List ℕ = top (drop (wait_size w) st) in
    let late : Next → Timed = λ next. next (context_of old) (c.args.pc + 2) (drop (1 + wait_size w) st) in
    let got : Next → Timed = λ next. next (context_of old) (c.args.pc + 1) (drop (wait_size w) st) in
    let after : Next → Option ℤ → Timed = λ next y. request_device name y (late next) (got next) in
    let z = c.in-Ok.timeout in
    let t : timeout_in w st ≡ Ok z = sym (sym c.in-Ok.is ∙ c.timeout_of.ensures ∙ ap (λ l. timeout_in w (reverse l)) c.deref.ensures.value) in
    let named : c.at.result.now ≡ name = c.at.ensures ∙ ap (λ l. top (drop c.wait_size-above.result (reverse l))) c.deref-2.ensures.value ∙ ap (λ k. top (drop k st)) c.wait_size-above.ensures in
    let there : is_open name (state_of old) ≡ true = ap (λ x. is_open x (state_of old)) (sym named) ∙ sym c.has.ensures ∙ c.if-has.true in
    does_as (λ next. waits w st (after next)) (λ next. change (in_time z true) (past old c.args.pc c.wait_size-above.result next)) old (replied c.args.given) steps.Next c.go_past.new.machine
    (λ next n back replies. ap (λ q. q back (state_of old) replies) (waits_known w st (after next) n)
    ∙ given_is (timeout_in w st) (Ok z) (after next) n back (state_of old) replies t
    ∙ obtain_open name z (late next) (got next) n back (state_of old) replies there
    ∙ ap (λ k. change (in_time z true) (past old c.args.pc k next) n back (state_of old) replies) (sym c.wait_size-above.ensures))
    (c.go_past.ensures (replied c.args.given))

pub returns-then-len-gt-DEVICES_LIMIT-clause-ok : goal.returns-then-len-gt-DEVICES_LIMIT-clause-ok
returns-then-len-gt-DEVICES_LIMIT-clause-ok c = λ all u.
    let old = c.args.machine.now in
    let w = c.args.wait in
    let st : Stack = stack_of old in
    let name : List ℕ = top (drop (wait_size w) st) in
    let late : Next → Timed = λ next. next (context_of old) (c.args.pc + 2) (drop (1 + wait_size w) st) in
    let got : Next → Timed = λ next. next (context_of old) (c.args.pc + 1) (drop (wait_size w) st) in
    let after : Next → Option ℤ → Timed = λ next y. request_device name y (late next) (got next) in
    let z = c.in-Ok.timeout in
    let t : timeout_in w st ≡ Ok z = sym (sym c.in-Ok.is ∙ c.timeout_of.ensures ∙ ap (λ l. timeout_in w (reverse l)) c.deref.ensures.value) in
    let named : c.at.result.now ≡ name = c.at.ensures ∙ ap (λ l. top (drop c.wait_size-above.result (reverse l))) c.deref-2.ensures.value ∙ ap (λ k. top (drop k st)) c.wait_size-above.ensures in
    let none : is_open name (state_of old) ≡ false = ap (λ x. is_open x (state_of old)) (sym named) ∙ sym c.has.ensures ∙ c.if-has.false in
    does_as (λ next. waits w st (after next)) (λ next. fault Limit) old (replied c.args.given) c.fail-then-len-gt-DEVICES_LIMIT.result c.fail-then-len-gt-DEVICES_LIMIT.new.machine
    (λ next n back replies. ap (λ q. q back (state_of old) replies) (waits_known w st (after next) n)
    ∙ given_is (timeout_in w st) (Ok z) (after next) n back (state_of old) replies t
    ∙ obtain_limit name z (late next) (got next) n back (state_of old) replies none (omega (arith, c.len.ensures, c.if-len-gt-DEVICES_LIMIT.true)))
    (c.fail-then-len-gt-DEVICES_LIMIT.ensures (replied c.args.given))

pub returns-then-machine-clause-ok : goal.returns-then-machine-clause-ok
returns-then-machine-clause-ok c = λ all u.
    let old = c.args.machine.now in
    let w = c.args.wait in
    let st : Stack = stack_of old in
    let name : List ℕ = top (drop (wait_size w) st) in
    let late : Next → Timed = λ next. next (context_of old) (c.args.pc + 2) (drop (1 + wait_size w) st) in
    let got : Next → Timed = λ next. next (context_of old) (c.args.pc + 1) (drop (wait_size w) st) in
    let after : Next → Option ℤ → Timed = λ next y. request_device name y (late next) (got next) in
    let z = c.in-Ok.timeout in
    let t : timeout_in w st ≡ Ok z = sym (sym c.in-Ok.is ∙ c.timeout_of.ensures ∙ ap (λ l. timeout_in w (reverse l)) c.deref.ensures.value) in
    let named : c.at.result.now ≡ name = c.at.ensures ∙ ap (λ l. top (drop c.wait_size-above.result (reverse l))) c.deref-2.ensures.value ∙ ap (λ k. top (drop k st)) c.wait_size-above.ensures in
    let none : is_open name (state_of old) ≡ false = ap (λ x. is_open x (state_of old)) (sym named) ∙ sym c.has.ensures ∙ c.if-has.false in
    does_as (λ next. waits w st (after next)) (λ next. fault Steps) old (replied c.args.given) c.fail-then-machine.result c.fail-then-machine.new.machine
    (λ next n back replies. ap (λ q. q back (state_of old) replies) (waits_known w st (after next) n)
    ∙ given_is (timeout_in w st) (Ok z) (after next) n back (state_of old) replies t
    ∙ obtain_asks name z (late next) (got next) n back (state_of old) replies none (omega (arith, c.len.ensures, c.if-len-gt-DEVICES_LIMIT.false))
    ∙ no_more _ (λ r. obtained name z r (late next) (got next)) n back (state_of old) replies c.if-machine.true)
    (c.fail-then-machine.ensures (replied c.args.given))
