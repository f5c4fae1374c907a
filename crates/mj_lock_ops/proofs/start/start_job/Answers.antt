use Rattle.std.proofs.Common.{◌≡◌, ℕ, ◌+◌, ◌<◌, List, drop, Option, reverse, sym, ap, ◌∙◌, arith}
use Rattle.mj_text.specs.declared.fault.Fault.TheVariants.{InTransaction}
use Rattle.std.proofs.lemmas.Result.{IfOk-weaker}
use Rattle.std.specs.Prelude.{ℤ, Ok, Err}
use Rattle.mj_ask.specs.declared.entry.Entry.{Entry}
use Rattle.mj_ask.specs.Started.{Started}
use Rattle.mj_ask.specs.declared.ask.Ask.TheVariants as asks
use Rattle.mj_ask.specs.declared.ask.SharedAsk.TheVariants as shared_asks
use Rattle.mj_semantics.specs.Outcome.{Timed, ask, given, fault}
use Rattle.mj_semantics.specs.Sharing.{start_job, served}
use Rattle.mj_pcode.specs.Machine.{Next, Stack, waits, wait_size, operands, spread, given_count}
use Rattle.mj_machine.specs.Kept.{context_of, stack_of, state_of, replied}
use Rattle.mj_machine.proofs.Asks.{does_as, given_is}
use Rattle.mj_lock_ops.specs.Wanted.{timeout_in}
use Rattle.mj_lock_ops.proofs.Wanting.{waits_known, in_it, outside_it}
use Rattle.mj_lock_ops.proofs.start.start_job.Goals as goal

pub returns-in-Err-clause-ok : goal.returns-in-Err-clause-ok
returns-in-Err-clause-ok c = λ all u.
    let old = c.args.machine.now in
    let shape = c.args.shape.now in
    let w = c.args.wait in
    let st : Stack = stack_of old in
    let f = c.in-Err.fault in
    let t : timeout_in w st ≡ Err f = sym (sym c.in-Err.is ∙ c.timeout_of.ensures ∙ ap (λ l. timeout_in w (reverse l)) c.deref.ensures.value) in
    let rest : Next → Timed = λ next. next (context_of old) (c.args.pc + 1) (drop (given_count shape + wait_size w) st) in
    let after : Next → Option ℤ → Timed = λ next z. start_job c.args.entry.now (spread shape (operands (given_count shape) (drop (wait_size w) st))) z (rest next) in
    does_as (λ next. waits w st (after next)) (λ next. fault f) old (replied c.args.given) c.fail.result c.fail.new.machine
    (λ next n back replies. ap (λ q. q back (state_of old) replies) (waits_known w st (after next) n) ∙ given_is (timeout_in w st) (Err f) (after next) n back (state_of old) replies t)
    (c.fail.ensures (replied c.args.given))

pub returns-then-machine-gt0-clause-ok : goal.returns-then-machine-gt0-clause-ok
returns-then-machine-gt0-clause-ok c = λ all u.
    let old = c.args.machine.now in
    let shape = c.args.shape.now in
    let entry = c.args.entry.now in
    let w = c.args.wait in
    let st : Stack = stack_of old in
    let z = c.in-Ok.timeout in
    let t : timeout_in w st ≡ Ok z = sym (sym c.in-Ok.is ∙ c.timeout_of.ensures ∙ ap (λ l. timeout_in w (reverse l)) c.deref.ensures.value) in
    let values = spread shape (operands (given_count shape) (drop (wait_size w) st)) in
    let made : Started = record { entry = entry; values = values } in
    let rest : Next → Timed = λ next. next (context_of old) (c.args.pc + 1) (drop (given_count shape + wait_size w) st) in
    let after : Next → Option ℤ → Timed = λ next y. start_job entry values y (rest next) in
    does_as (λ next. waits w st (after next)) (λ next. fault InTransaction) old (replied c.args.given) c.fail-then-machine-gt0.result c.fail-then-machine-gt0.new.machine
    (λ next n back replies.
    ap (λ q. q back (state_of old) replies) (waits_known w st (after next) n)
    ∙ given_is (timeout_in w st) (Ok z) (after next) n back (state_of old) replies t
    ∙ in_it (ask (asks.Shared (shared_asks.Start made z)) (λ r. served z r (rest next))) n back (state_of old) replies c.if-machine-gt0.true)
    (c.fail-then-machine-gt0.ensures (replied c.args.given))

pub returns-clause-ok : goal.returns-clause-ok
returns-clause-ok c =
    let old = c.args.machine.now in
    let shape = c.args.shape.now in
    let entry = c.args.entry.now in
    let w = c.args.wait in
    let st : Stack = stack_of old in
    let given_actuals = given_count shape in
    let z = c.in-Ok.timeout in
    let act = c.given_count-actuals.result in
    let ab = c.wait_size-above.result in
    let t : timeout_in w st ≡ Ok z = sym (sym c.in-Ok.is ∙ c.timeout_of.ensures ∙ ap (λ l. timeout_in w (reverse l)) c.deref.ensures.value) in
    let gc : act ≡ given_actuals = c.given_count-actuals.ensures.value ∙ ap given_count c.as_slice.ensures in
    let ws : ab ≡ wait_size w = c.wait_size-above.ensures in
    let ops : c.topmost-operands.result.now ≡ operands given_actuals (drop (wait_size w) st) =
    c.topmost-operands.ensures ∙ ap (operands act) (c.under.ensures ∙ ap (λ l. drop ab (reverse l)) c.deref-2.ensures.value)
    ∙ ap (λ k. operands k (drop ab st)) gc ∙ ap (λ k. operands given_actuals (drop k st)) ws in
    let values = spread shape (operands given_actuals (drop (wait_size w) st)) in
    let vs : c.in_ok-values.values.items ≡ values = c.in_ok-values.ensures ∙ ap (λ l. spread l c.topmost-operands.result.now) c.as_slice-2.ensures ∙ ap (spread shape) ops in
    let made : Entry → List (Option (List ℕ)) → Started = λ e xs. record { entry = e; values = xs } in
    let start : c.in_ok-boxed.boxed ≡ made entry values = c.in_ok-boxed.ensures ∙ c.new-start.ensures ∙ ap (λ e. made e c.in_ok-values.values.items) c.in_ok-try_clone.ensures ∙ ap (made entry) vs in
    let none : old.level ≡ 0 = omega (arith, c.if-machine-gt0.false) in
    let taken : act + ab ≡ given_actuals + wait_size w = ap (λ k. k + ab) gc ∙ ap (λ k. given_actuals + k) ws in
    let rest : Next → ℕ → Timed = λ next k. next (context_of old) (c.args.pc + 1) (drop k st) in
    let after : Next → Option ℤ → Timed = λ next y. start_job entry values y (rest next (given_actuals + wait_size w)) in
    IfOk-weaker c.ask_in_time.result _ _
    (λ step d all u. does_as (λ next. waits w st (after next)) (λ next. ask (asks.Shared (shared_asks.Start c.in_ok-boxed.boxed z)) (λ r. served z r (rest next (act + ab)))) old
    (replied c.args.given) step _
    (λ next n back replies.
    ap (λ q. q back (state_of old) replies) (waits_known w st (after next) n)
    ∙ given_is (timeout_in w st) (Ok z) (after next) n back (state_of old) replies t
    ∙ outside_it (ask (asks.Shared (shared_asks.Start (made entry values) z)) (λ r. served z r (rest next (given_actuals + wait_size w)))) n back (state_of old) replies none
    ∙ ap (λ x. ask (asks.Shared (shared_asks.Start x z)) (λ r. served z r (rest next (given_actuals + wait_size w))) n back (state_of old) replies) (sym start)
    ∙ ap (λ k. ask (asks.Shared (shared_asks.Start c.in_ok-boxed.boxed z)) (λ r. served z r (rest next k)) n back (state_of old) replies) (sym taken)) d)
    c.ask_in_time.ensures.ok
