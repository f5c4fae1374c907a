use Rattle.std.proofs.Common.{◌≡◌, ℕ, ◌+◌, ◌<◌, ◌==◌, List, [], ◌∷◌, length, drop, Option, Some, None, Result, Ok, Err, true, false, ◌≢◌, refl, sym, ap, ◌∙◌, reverse, arith}
use Rattle.std.specs.Prelude.{ℤ}
use Rattle.std.proofs.lemmas.Bool.{eqb-true, eqb-false}
use Rattle.mj_text.specs.declared.fault.Fault.{Fault}
use Rattle.mj_subs.specs.Name.{Name}
use Rattle.mj_semantics.specs.State.{counted}
use Rattle.mj_semantics.specs.Outcome.{Timed, given, fault}
use Rattle.mj_semantics.specs.Sharing.{served}
use Rattle.mj_pcode.specs.declared.instr.Reference.{Reference}
use Rattle.mj_pcode.specs.Machine.{Next, Stack, waits, wait_size, counts, names_on}
use Rattle.mj_machine.specs.Kept.{context_of, stack_of, state_of}
use Rattle.mj_machine.proofs.Asks.{does_as, takes}
use Rattle.mj_lock_ops.specs.Wanted.{refused, timeout_in, wanted_in}
use Rattle.mj_lock_ops.proofs.Wanting.{all_named, asked_told, names_told, none_asked, not_all_named, obeys_lock, some_named, takes_or_gives, wanted_is, wanted_late, wanted_of}
use Rattle.mj_lock_ops.proofs.locks.take_wanted.Goals as goal

no_more_left : (rs : List Reference) → length rs ≡ 0 → rs ≡ []
no_more_left [] e = refl
no_more_left (r ∷ rs) e = absurd (omega (arith, e))

sym_empty : (rs : List Reference) → (length rs == 0) ≡ true → length rs ≡ 0
sym_empty rs e = eqb-true (length rs) 0 e

some_left : (rs : List Reference) → (length rs == 0) ≡ false → 0 < length rs
some_left rs e =
    let some : length rs ≢ 0 = eqb-false (length rs) 0 e in
    omega (arith, some)

pub returns-in-Err : goal.returns-in-Err
returns-in-Err c = λ b.
    let old = c.args.machine.now in
    let rs = c.args.references.now in
    let w = c.args.wait in
    let st : Stack = stack_of old in
    let f = c.in-Err.fault in
    let t : timeout_in w st ≡ Err f = sym (sym c.in-Err.is ∙ c.timeout_of.ensures ∙ ap (λ l. timeout_in w (reverse l)) c.deref.ensures.value) in
    let rest : Next → Timed = λ next. next (context_of old) (c.args.pc + 1) (drop (counts rs + wait_size w) st) in
    let after : Next → Option ℤ → Timed = λ next y. given (names_on rs (drop (wait_size w) st)) (λ xs. takes_or_gives b xs y (rest next)) in
    obeys_lock b rs w c.args.pc old (Some c.args.reply.now) c.fail.result c.fail.new.machine
    (λ all u. does_as (λ next. waits w st (after next)) (λ next. fault f) old (Some c.args.reply.now) c.fail.result c.fail.new.machine
    (λ next n back replies. wanted_is rs w st (λ xs y. takes_or_gives b xs y (rest next)) (Err f) n back (state_of old) replies (wanted_late rs w st f t))
    (c.fail.ensures (Some c.args.reply.now)))

pub returns-in-Some : goal.returns-in-Some
returns-in-Some c = λ b.
    let old = c.args.machine.now in
    let rs = c.args.references.now in
    let w = c.args.wait in
    let st : Stack = stack_of old in
    let f = c.in-Some.fault in
    let z = c.in-Ok.timeout in
    let t : timeout_in w st ≡ Ok z = sym (sym c.in-Ok.is ∙ c.timeout_of.ensures ∙ ap (λ l. timeout_in w (reverse l)) c.deref.ensures.value) in
    let why : refused (names_on rs (drop (wait_size w) st)) ≡ Some f =
    sym (c.refusal_below.ensures ∙ (λ i. refused (names_on (c.as_slice-variables.ensures i) (drop (c.wait_size-above.ensures i) st)))) ∙ c.in-Some.is in
    let found : wanted_in rs w st ≡ Err f = wanted_of rs w st z (Err f) t (not_all_named (names_on rs (drop (wait_size w) st)) f why) in
    let rest : Next → Timed = λ next. next (context_of old) (c.args.pc + 1) (drop (counts rs + wait_size w) st) in
    let after : Next → Option ℤ → Timed = λ next y. given (names_on rs (drop (wait_size w) st)) (λ xs. takes_or_gives b xs y (rest next)) in
    obeys_lock b rs w c.args.pc old (Some c.args.reply.now) c.fail-in-Some.result c.fail-in-Some.new.machine
    (λ all u. does_as (λ next. waits w st (after next)) (λ next. fault f) old (Some c.args.reply.now) c.fail-in-Some.result c.fail-in-Some.new.machine
    (λ next n back replies. wanted_is rs w st (λ xs y. takes_or_gives b xs y (rest next)) (Err f) n back (state_of old) replies found)
    (c.fail-in-Some.ensures (Some c.args.reply.now)))

pub returns-then-is_empty : goal.returns-then-is_empty
returns-then-is_empty c = λ b.
    let old = c.args.machine.now in
    let rs = c.args.references.now in
    let w = c.args.wait in
    let st : Stack = stack_of old in
    let z = c.in-Ok.timeout in
    let none : List Name = [] in
    let t : timeout_in w st ≡ Ok z = sym (sym c.in-Ok.is ∙ c.timeout_of.ensures ∙ ap (λ l. timeout_in w (reverse l)) c.deref.ensures.value) in
    let empty : rs ≡ [] = no_more_left rs (ap length (sym c.as_slice-variables.ensures) ∙ sym_empty c.as_slice-variables.result.now (sym c.if-is_empty.ensures)) in
    let found : wanted_in rs w st ≡ Ok (z, none) = wanted_of rs w st z (Ok none) t (ap (λ l. names_on l (drop (wait_size w) st)) empty) in
    let count : c.counts.result + c.wait_size-above.result ≡ counts rs + wait_size w =
    λ i. (c.counts.ensures ∙ ap counts c.as_slice-variables.ensures) i + c.wait_size-above.ensures i in
    let rest : Next → ℕ → Timed = λ next k. next (context_of old) (c.args.pc + 1) (drop k st) in
    let after : Next → Option ℤ → Timed = λ next y. given (names_on rs (drop (wait_size w) st)) (λ xs. takes_or_gives b xs y (rest next (counts rs + wait_size w))) in
    obeys_lock b rs w c.args.pc old (Some c.args.reply.now) c.discard.result c.discard.new.machine
    (λ all u. does_as (λ next. waits w st (after next)) (λ next. rest next (c.counts.result + c.wait_size-above.result)) old (Some c.args.reply.now) c.discard.result c.discard.new.machine
    (λ next n back replies. wanted_is rs w st (λ xs y. takes_or_gives b xs y (rest next (counts rs + wait_size w))) (Ok (z, none)) n back (state_of old) replies found
    ∙ ap (λ q. q n back (state_of old) replies) (none_asked b z (rest next (counts rs + wait_size w)))
    ∙ ap (λ k. rest next k n back (state_of old) replies) (sym count))
    (c.discard.ensures (Some c.args.reply.now) all u))

pub returns : goal.returns
returns c = λ b.
    let old = c.args.machine.now in
    let rs = c.args.references.now in
    let w = c.args.wait in
    let st : Stack = stack_of old in
    let r = c.args.reply.now in
    let z = c.in-Ok.timeout in
    let t : timeout_in w st ≡ Ok z = sym (sym c.in-Ok.is ∙ c.timeout_of.ensures ∙ ap (λ l. timeout_in w (reverse l)) c.deref.ensures.value) in
    let told : Result (List Name) Fault = names_on rs (drop (wait_size w) st) in
    let all_right : refused told ≡ None =
    sym (c.refusal_below.ensures ∙ (λ i. refused (names_on (c.as_slice-variables.ensures i) (drop (c.wait_size-above.ensures i) st)))) ∙ c.in_default.is in
    let names = names_told told in
    let found : wanted_in rs w st ≡ Ok (z, names) = wanted_of rs w st z (Ok names) t (all_named told all_right) in
    let left : 0 < length c.as_slice-variables.result.now = some_left c.as_slice-variables.result.now (sym c.if-is_empty.ensures) in
    let same : length c.as_slice-variables.result.now ≡ length rs = ap length c.as_slice-variables.ensures in
    let any : 0 < length rs = omega (arith, left, same) in
    let some : 0 < length names = some_named rs (drop (wait_size w) st) any all_right in
    let count : c.counts.result + c.wait_size-above.result ≡ counts rs + wait_size w =
    λ i. (c.counts.ensures ∙ ap counts c.as_slice-variables.ensures) i + c.wait_size-above.ensures i in
    let rest : Next → ℕ → Timed = λ next k. next (context_of old) (c.args.pc + 1) (drop k st) in
    let after : Next → Option ℤ → Timed = λ next y. given (names_on rs (drop (wait_size w) st)) (λ xs. takes_or_gives b xs y (rest next (counts rs + wait_size w))) in
    obeys_lock b rs w c.args.pc old (Some c.args.reply.now) c.take.result c.take.new.machine
    (λ all u. takes (λ next. waits w st (after next)) (λ next. served z r (rest next (c.counts.result + c.wait_size-above.result))) old (Some r) r c.take.result c.take.new.machine refl
    (λ next n back replies. wanted_is rs w st (λ xs y. takes_or_gives b xs y (rest next (counts rs + wait_size w))) (Ok (z, names)) n back (state_of old) (r ∷ replies) found
    ∙ asked_told b names z (rest next (counts rs + wait_size w)) n back (state_of old) r replies some c.requires.more
    ∙ ap (λ k. served z r (rest next k) n back (counted (state_of old)) replies) (sym count))
    c.take.ensures)
