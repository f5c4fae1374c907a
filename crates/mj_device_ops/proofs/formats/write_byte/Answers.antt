use Rattle.std.proofs.Common.{◌≡◌, ℕ, ◌+◌, ◌∷◌, List, [], reverse, Ok, Err, sym, ap, ◌∙◌}
use Rattle.std.specs.Prelude.{ℤ}
use Rattle.std.proofs.lemmas.Result.{IfOk-weaker}
use Rattle.mj_text.specs.declared.fault.Fault.TheVariants.{Char}
use Rattle.mj_num.specs.Number.{reading}
use Rattle.mj_semantics.specs.Outcome.{Timed, given, fault}
use Rattle.mj_semantics.specs.Commands.{write, write_code, coded}
use Rattle.mj_pcode.specs.Machine.{Next, Stack, top, below}
use Rattle.mj_machine.specs.Kept.{context_of, stack_of, state_of, replied, without}
use Rattle.mj_machine.proofs.Operands.{below_is}
use Rattle.mj_machine.proofs.Asks.{does_as, given_is}
use Rattle.mj_device_ops.specs.Talked.{coded_by}
use Rattle.mj_device_ops.proofs.formats.write_byte.Goals as goal

pub returns-in-Err-clause-ok : goal.returns-in-Err-clause-ok
returns-in-Err-clause-ok c = λ all u.
    let old = c.args.machine.now in
    let st : Stack = stack_of old in
    let t : c.top.result.now ≡ top st = c.top.ensures ∙ ap (λ l. top (reverse l)) c.deref.ensures.value in
    let f = c.in-Err.fault in
    let is : reading (top st) ≡ Err f = sym (sym c.in-Err.is ∙ c.read.ensures ∙ ap reading t) in
    let rest : Next → Timed = λ next. next (context_of old) (c.args.pc + 1) (below st) in
    let after : Next → ℤ → Timed = λ next i. given (coded i) (λ bytes. write bytes (rest next)) in
    does_as (λ next. write_code (top st) (rest next)) (λ next. fault f) old (replied c.args.given) c.fail.result c.fail.new.machine
    (λ next n back replies. given_is (reading (top st)) (Err f) (after next) n back (state_of old) replies is)
    (c.fail.ensures (replied c.args.given))

pub returns-in-None-clause-ok : goal.returns-in-None-clause-ok
returns-in-None-clause-ok c = λ all u.
    let old = c.args.machine.now in
    let st : Stack = stack_of old in
    let t : c.top.result.now ≡ top st = c.top.ensures ∙ ap (λ l. top (reverse l)) c.deref.ensures.value in
    let i = c.in-Ok.code in
    let is : reading (top st) ≡ Ok i = sym (sym c.in-Ok.is ∙ c.read.ensures ∙ ap reading t) in
    let none : coded i ≡ Err Char = sym c.byte_of.ensures ∙ ap coded_by c.in-None.is in
    let rest : Next → Timed = λ next. next (context_of old) (c.args.pc + 1) (below st) in
    let after : Next → ℤ → Timed = λ next i. given (coded i) (λ bytes. write bytes (rest next)) in
    does_as (λ next. write_code (top st) (rest next)) (λ next. fault Char) old (replied c.args.given) c.fail-in-None.result c.fail-in-None.new.machine
    (λ next n back replies.
    given_is (reading (top st)) (Ok i) (after next) n back (state_of old) replies is
    ∙ given_is (coded i) (Err Char) (λ bytes. write bytes (rest next)) n back (state_of old) replies none)
    (c.fail-in-None.ensures (replied c.args.given))

pub returns-in-Some-clause-ok : goal.returns-in-Some-clause-ok
returns-in-Some-clause-ok c =
    let old = c.args.machine.now in
    let st : Stack = stack_of old in
    let t : c.top.result.now ≡ top st = c.top.ensures ∙ ap (λ l. top (reverse l)) c.deref.ensures.value in
    let i = c.in-Ok.code in
    let byte : List ℕ = c.in-Some.byte ∷ [] in
    let is : reading (top st) ≡ Ok i = sym (sym c.in-Ok.is ∙ c.read.ensures ∙ ap reading t) in
    let one : coded i ≡ Ok byte = sym c.byte_of.ensures ∙ ap coded_by c.in-Some.is in
    let rest : Next → Timed = λ next. next (context_of old) (c.args.pc + 1) (below st) in
    let after : Next → ℤ → Timed = λ next i. given (coded i) (λ bytes. write bytes (rest next)) in
    IfOk-weaker c.put_bytes.result _ _
    (λ step d all u. does_as (λ next. write_code (top st) (rest next)) (λ next. write byte (without old c.args.pc 1 next)) old (replied c.args.given) step _
    (λ next n back replies.
    given_is (reading (top st)) (Ok i) (after next) n back (state_of old) replies is
    ∙ given_is (coded i) (Ok byte) (λ bytes. write bytes (rest next)) n back (state_of old) replies one
    ∙ ap (λ l. write byte (next (context_of old) (c.args.pc + 1) l) n back (state_of old) replies) (below_is st)) d)
    c.put_bytes.ensures.ok
