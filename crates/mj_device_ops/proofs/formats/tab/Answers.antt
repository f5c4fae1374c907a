use Rattle.std.proofs.Common.{◌≡◌, ℕ, ◌+◌, ◌++◌, ◌<◌, map, length, reverse, Ok, Err, sym, ap, ◌∙◌, arith}
use Rattle.std.specs.Prelude.{ℤ, replicate}
use Rattle.std.proofs.lemmas.Result.{IfOk-weaker}
use Rattle.mj_text.specs.declared.fault.Fault.TheVariants.{Length}
use Rattle.mj_text.specs.Limit.{most_bytes}
use Rattle.mj_num.specs.Number.{reading}
use Rattle.mj_semantics.specs.State.{column_at}
use Rattle.mj_semantics.specs.Outcome.{Timed, look, fault}
use Rattle.mj_semantics.specs.Commands.{write, tab, tab_bytes, mark_byte}
use Rattle.mj_pcode.specs.Machine.{Next, Stack, top, below}
use Rattle.mj_machine.specs.Kept.{context_of, stack_of, state_of, replied, without}
use Rattle.mj_machine.proofs.Operands.{below_is}
use Rattle.mj_machine.proofs.Asks.{does_as, given_is, over_long}
use Rattle.mj_device_ops.proofs.Talking.{gap, tab_long}
use Rattle.mj_device_ops.proofs.formats.tab.Goals as goal

pub returns-in-Err-clause-ok : goal.returns-in-Err-clause-ok
returns-in-Err-clause-ok c = λ all u.
    let old = c.args.machine.now in
    let st : Stack = stack_of old in
    let marks = c.args.marks.now in
    let t : c.top.result.now ≡ top st = c.top.ensures ∙ ap (λ l. top (reverse l)) c.deref.ensures.value in
    let f = c.in-Err.fault in
    let is : reading (top st) ≡ Err f = sym (sym c.in-Err.is ∙ c.read.ensures ∙ ap reading t) in
    let rest : Next → Timed = λ next. next (context_of old) (c.args.pc + 1) (below st) in
    let after : Next → ℤ → Timed = λ next i. look (λ s. write (tab_bytes marks i (column_at s.current s)) (rest next)) in
    does_as (λ next. tab marks (top st) (rest next)) (λ next. fault f) old (replied c.args.given) c.fail.result c.fail.new.machine
    (λ next n back replies. given_is (reading (top st)) (Err f) (after next) n back (state_of old) replies is)
    (c.fail.ensures (replied c.args.given))

pub returns-then-spaces-most-clause-ok : goal.returns-then-spaces-most-clause-ok
returns-then-spaces-most-clause-ok c = λ all u.
    let old = c.args.machine.now in
    let st : Stack = stack_of old in
    let marks = c.args.marks.now in
    let t : c.top.result.now ≡ top st = c.top.ensures ∙ ap (λ l. top (reverse l)) c.deref.ensures.value in
    let i = c.in-Ok.column in
    let is : reading (top st) ≡ Ok i = sym (sym c.in-Ok.is ∙ c.read.ensures ∙ ap reading t) in
    let from : ℕ = column_at old.devices.current (state_of old) in
    let spaces : c.spaces-spaces.result ≡ gap marks i from = c.spaces-spaces.ensures ∙ ap (λ l. gap l i c.column.result) c.as_slice.ensures ∙ ap (gap marks i) c.column.ensures.value in
    let most : ℕ = most_bytes old.bounds.limit in
    let long : most < length (tab_bytes marks i from) = tab_long most marks i from (omega (arith, spaces, c.if-spaces-most.true, c.bytes-most.ensures.value)) in
    let rest : Next → Timed = λ next. next (context_of old) (c.args.pc + 1) (below st) in
    let after : Next → ℤ → Timed = λ next j. look (λ s. write (tab_bytes marks j (column_at s.current s)) (rest next)) in
    does_as (λ next. tab marks (top st) (rest next)) (λ next. fault Length) old (replied c.args.given) c.fail-then-spaces-most.result c.fail-then-spaces-most.new.machine
    (λ next n back replies.
    given_is (reading (top st)) (Ok i) (after next) n back (state_of old) replies is
    ∙ over_long (tab_bytes marks i from) (rest next) n back (state_of old) replies long)
    (c.fail-then-spaces-most.ensures (replied c.args.given))

pub returns-clause-ok : goal.returns-clause-ok
returns-clause-ok c =
    let old = c.args.machine.now in
    let st : Stack = stack_of old in
    let marks = c.args.marks.now in
    let t : c.top.result.now ≡ top st = c.top.ensures ∙ ap (λ l. top (reverse l)) c.deref.ensures.value in
    let i = c.in-Ok.column in
    let is : reading (top st) ≡ Ok i = sym (sym c.in-Ok.is ∙ c.read.ensures ∙ ap reading t) in
    let from : ℕ = column_at old.devices.current (state_of old) in
    let spaces : c.spaces-spaces.result ≡ gap marks i from = c.spaces-spaces.ensures ∙ ap (λ l. gap l i c.column.result) c.as_slice.ensures ∙ ap (gap marks i) c.column.ensures.value in
    let bytes : c.deref-2.result.now ≡ tab_bytes marks i from =
    c.deref-2.ensures.value ∙ c.in_ok-bytes.ensures ∙ ap (λ l. map mark_byte l ++ replicate c.spaces-spaces.result 32) c.as_slice-2.ensures
    ∙ ap (λ k. map mark_byte marks ++ replicate k 32) spaces in
    let rest : Next → Timed = λ next. next (context_of old) (c.args.pc + 1) (below st) in
    let after : Next → ℤ → Timed = λ next j. look (λ s. write (tab_bytes marks j (column_at s.current s)) (rest next)) in
    IfOk-weaker c.put_bytes.result _ _
    (λ step d all u. does_as (λ next. tab marks (top st) (rest next)) (λ next. write c.deref-2.result.now (without old c.args.pc 1 next)) old (replied c.args.given) step _
    (λ next n back replies.
    given_is (reading (top st)) (Ok i) (after next) n back (state_of old) replies is
    ∙ ap (λ l. write (tab_bytes marks i from) (next (context_of old) (c.args.pc + 1) l) n back (state_of old) replies) (below_is st)
    ∙ ap (λ b. write b (without old c.args.pc 1 next) n back (state_of old) replies) (sym bytes)) d)
    c.put_bytes.ensures.ok
