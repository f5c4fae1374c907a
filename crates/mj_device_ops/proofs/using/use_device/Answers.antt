use Rattle.std.proofs.Common.{◌≡◌, ℕ, ◌+◌, List, false, reverse, sym, ap, ◌∙◌}
use Rattle.std.specs.Prelude.{if◌then◌else◌}
use Rattle.mj_text.specs.declared.fault.Fault.TheVariants.{NoDevice}
use Rattle.mj_semantics.specs.State.{is_open, used}
use Rattle.mj_semantics.specs.Outcome.{Timed, change, fault}
use Rattle.mj_semantics.specs.Devices.{use_device}
use Rattle.mj_pcode.specs.Machine.{Next, top, below}
use Rattle.mj_machine.specs.Kept.{context_of, stack_of, state_of}
use Rattle.mj_machine.proofs.Asks.{does_as}
use Rattle.mj_device_ops.proofs.using.use_device.Goals as goal

pub returns-then-not-has : goal.returns-then-not-has
returns-then-not-has c = λ reply all u.
    let old = c.args.machine.now in
    let name : List ℕ = top (stack_of old) in
    let t : c.top.result.now ≡ name = c.top.ensures ∙ ap (λ l. top (reverse l)) c.deref.ensures.value in
    let none : is_open name (state_of old) ≡ false = ap (λ x. is_open x (state_of old)) (sym t) ∙ sym c.if-not-has.ensures in
    let rest : Next → Timed = λ next. next (context_of old) (c.args.pc + 1) (below (stack_of old)) in
    does_as (λ next. use_device name (rest next)) (λ next. fault NoDevice) old reply c.fail.result c.fail.new.machine
    (λ next n back replies. ap (λ b. (if b then change (used name) (rest next) else fault NoDevice) n back (state_of old) replies) none)
    (c.fail.ensures reply)
