use Rattle.std.proofs.Common.{◌≡◌, ℕ, ◌+◌, ◌<◌, List, [], length, drop, Option, Ok, Err, sym, ap, ◌∙◌, subst}
use Rattle.std.proofs.lemmas.Result.{IfOk-weaker}
use Rattle.std.specs.Prelude.{ℤ, IfOk, IfSome}
use Rattle.mj_text.specs.Failing.{then_value}
use Rattle.mj_subs.specs.Name.{Name}
use Rattle.mj_ask.specs.declared.ask.Ask.{Ask}
use Rattle.mj_semantics.specs.Outcome.{Timed, ask, given, fault}
use Rattle.mj_semantics.specs.Sharing.{served}
use Rattle.mj_pcode.specs.Machine.{Next, Stack, waits, wait_size, counts, names_on}
use Rattle.mj_machine.specs.Kept.{context_of, stack_of, state_of, replied}
use Rattle.mj_machine.proofs.Asks.{does_as}
use Rattle.mj_lock_ops.specs.Wanted.{ask_of, listed, wanted_in}
use Rattle.mj_lock_ops.proofs.Wanting.{none_asked, obeys_lock, some_asked, takes_or_gives, wanted_is}
use Rattle.mj_lock_ops.proofs.locks.take_or_give.Goals as goal

pub returns-in-Err-clause-ok : goal.returns-in-Err-clause-ok
returns-in-Err-clause-ok c =
    let takes = c.args.takes in
    let old = c.args.machine.now in
    let rs = c.args.references.now in
    let w = c.args.wait in
    let st : Stack = stack_of old in
    let f = c.in-Err.fault in
    let found : wanted_in rs w st ≡ Err f =
    sym c.in_ok-wanted.ensures.wanted ∙ ap (λ r. then_value r (λ a. Ok (a.timeout, listed a.names))) c.in-Err.is in
    let rest : Next → Timed = λ next. next (context_of old) (c.args.pc + 1) (drop (counts rs + wait_size w) st) in
    let after : Next → Option ℤ → Timed = λ next y. given (names_on rs (drop (wait_size w) st)) (λ xs. takes_or_gives takes xs y (rest next)) in
    obeys_lock takes rs w c.args.pc old (replied c.args.given) c.fail.result c.fail.new.machine
    (λ all u. does_as (λ next. waits w st (after next)) (λ next. fault f) old (replied c.args.given) c.fail.result c.fail.new.machine
    (λ next n back replies. wanted_is rs w st (λ xs y. takes_or_gives takes xs y (rest next)) (Err f) n back (state_of old) replies found)
    (c.fail.ensures (replied c.args.given)))

pub returns-in-None-clause-ok : goal.returns-in-None-clause-ok
returns-in-None-clause-ok c =
    let takes = c.args.takes in
    let old = c.args.machine.now in
    let rs = c.args.references.now in
    let w = c.args.wait in
    let st : Stack = stack_of old in
    let z = c.in-Ok.wanted.timeout in
    let none : List Name = [] in
    let found : wanted_in rs w st ≡ Ok (z, none) =
    sym c.in_ok-wanted.ensures.wanted ∙ ap (λ r. then_value r (λ a. Ok (a.timeout, listed a.names))) c.in-Ok.is
    ∙ ap (λ o. Ok (z, listed o)) c.in-None.is in
    let count : c.in-Ok.wanted.count ≡ counts rs + wait_size w =
    subst (λ r. IfOk r (λ a. a.count ≡ counts rs + wait_size w)) c.in-Ok.is c.in_ok-wanted.ensures.count in
    let rest : Next → ℕ → Timed = λ next k. next (context_of old) (c.args.pc + 1) (drop k st) in
    let after : Next → Option ℤ → Timed = λ next y. given (names_on rs (drop (wait_size w) st)) (λ xs. takes_or_gives takes xs y (rest next (counts rs + wait_size w))) in
    obeys_lock takes rs w c.args.pc old (replied c.args.given) c.discard.result c.discard.new.machine
    (λ all u. does_as (λ next. waits w st (after next)) (λ next. rest next c.in-Ok.wanted.count) old (replied c.args.given) c.discard.result c.discard.new.machine
    (λ next n back replies. wanted_is rs w st (λ xs y. takes_or_gives takes xs y (rest next (counts rs + wait_size w))) (Ok (z, none)) n back (state_of old) replies found
    ∙ ap (λ q. q n back (state_of old) replies) (none_asked takes z (rest next (counts rs + wait_size w)))
    ∙ ap (λ k. rest next k n back (state_of old) replies) (sym count))
    (c.discard.ensures (replied c.args.given) all u))

pub returns-in-Some-names-clause-ok : goal.returns-in-Some-names-clause-ok
returns-in-Some-names-clause-ok c =
    let takes = c.args.takes in
    let old = c.args.machine.now in
    let rs = c.args.references.now in
    let w = c.args.wait in
    let st : Stack = stack_of old in
    let z = c.in-Ok.wanted.timeout in
    let names = c.in-Some-names.names in
    let found : wanted_in rs w st ≡ Ok (z, names) =
    sym c.in_ok-wanted.ensures.wanted ∙ ap (λ r. then_value r (λ a. Ok (a.timeout, listed a.names))) c.in-Ok.is
    ∙ ap (λ o. Ok (z, listed o)) c.in-Some-names.is in
    let some : 0 < length names =
    subst (λ o. IfSome o (λ xs. 0 < length xs)) c.in-Some-names.is
    (subst (λ r. IfOk r (λ a. IfSome a.names (λ xs. 0 < length xs))) c.in-Ok.is c.in_ok-wanted.ensures.some) in
    let count : c.in-Ok.wanted.count ≡ counts rs + wait_size w =
    subst (λ r. IfOk r (λ a. a.count ≡ counts rs + wait_size w)) c.in-Ok.is c.in_ok-wanted.ensures.count in
    let rest : Next → ℕ → Timed = λ next k. next (context_of old) (c.args.pc + 1) (drop k st) in
    let after : Next → Option ℤ → Timed = λ next y. given (names_on rs (drop (wait_size w) st)) (λ xs. takes_or_gives takes xs y (rest next (counts rs + wait_size w))) in
    let asked : Ask → Next → ℕ → Timed = λ a next k. ask a (λ r. served z r (rest next k)) in
    IfOk-weaker c.ask_in_time.result _ _
    (λ step d. obeys_lock takes rs w c.args.pc old (replied c.args.given) step _
    (λ all u. does_as (λ next. waits w st (after next)) (λ next. asked c.ask_of-ask.result next c.in-Ok.wanted.count) old (replied c.args.given) step _
    (λ next n back replies. wanted_is rs w st (λ xs y. takes_or_gives takes xs y (rest next (counts rs + wait_size w))) (Ok (z, names)) n back (state_of old) replies found
    ∙ ap (λ q. q n back (state_of old) replies) (some_asked takes names z (rest next (counts rs + wait_size w)) some)
    ∙ ap (λ k. asked (ask_of takes names z) next k n back (state_of old) replies) (sym count)
    ∙ ap (λ a. asked a next c.in-Ok.wanted.count n back (state_of old) replies) (sym c.ask_of-ask.ensures)) d))
    c.ask_in_time.ensures.ok
