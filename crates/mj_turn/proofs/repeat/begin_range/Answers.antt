use Rattle.std.proofs.Common.{◌≡◌, List, Some, Bool, Ok, Err, sym, ap, ◌∙◌, reverse}
use Rattle.std.specs.Prelude.{if◌then◌else◌}
use Rattle.std.proofs.lemmas.Result.{IfOk-weaker}
use Rattle.mj_pcode.specs.Context.{Loop}
use Rattle.mj_pcode.specs.declared.instr.Span.TheVariants as spans
use Rattle.mj_pcode.specs.Machine as machines
use Rattle.mj_semantics.specs.Outcome as told
use Rattle.mj_machine.specs.Contexts.{loops_of}
use Rattle.mj_turn.specs.Loops.{innermost}
use Rattle.mj_turn.specs.Ranges.{numbers, starts}
use Rattle.mj_machine.specs.Kept.{state_of, context_of, stack_of}
use Rattle.mj_machine.proofs.Asks.{does_as}
use Rattle.mj_turn.proofs.Ranges.{has_innermost, ranged, unread}
use Rattle.mj_turn.proofs.repeat.begin_range.Goals as goal

pub returns-in-Ok-clause-ok : goal.returns-in-Ok-clause-ok
returns-in-Ok-clause-ok c =
    let m = c.args.machine.now in
    let ctx = context_of m in
    let stack = stack_of m in
    let ends : Bool = c.args.ends in
    let ls : List Loop = loops_of m.loops.items in
    let some = has_innermost m.loops.items c.requires.within in
    let l : Loop = some.0 in
    let r = c.in-Ok.range in
    let is : innermost ls ≡ Some l = some.1 in
    let e : numbers ends stack ≡ Ok r = sym (ap (λ st. numbers ends (reverse st)) c.deref.ensures.value) ∙ sym c.numbers.ensures ∙ c.in-Ok.is in
    IfOk-weaker c.first_pass.result _ _
    (λ step d. λ reply all u.
    does_as (λ next. machines.for_begins (if ends then spans.UpTo else spans.Endless) ls next ctx c.args.pc stack)
    (λ next. starts ls r.0 r.1 r.2 c.operands_of-taken.result next ctx c.args.pc stack) m reply step _
    (λ next n back replies. ranged next ctx c.args.pc stack n back (state_of m) replies ends c.operands_of-taken.result ls l is c.operands_of-taken.ensures (Ok r) e) (d reply))
    c.first_pass.ensures.ok

pub returns-in-Err-clause-ok : goal.returns-in-Err-clause-ok
returns-in-Err-clause-ok c = λ reply all u.
    let m = c.args.machine.now in
    let ctx = context_of m in
    let stack = stack_of m in
    let ends : Bool = c.args.ends in
    let ls : List Loop = loops_of m.loops.items in
    let some = has_innermost m.loops.items c.requires.within in
    let l : Loop = some.0 in
    let is : innermost ls ≡ Some l = some.1 in
    let e : numbers ends stack ≡ Err c.in-Err.fault = sym (ap (λ st. numbers ends (reverse st)) c.deref.ensures.value) ∙ sym c.numbers.ensures ∙ c.in-Err.is in
    does_as (λ next. machines.for_begins (if ends then spans.UpTo else spans.Endless) ls next ctx c.args.pc stack) (λ next. told.fault c.in-Err.fault) m reply c.fail.result _
    (λ next n back replies. unread next ctx c.args.pc stack n back (state_of m) replies ends ls l is c.in-Err.fault e) (c.fail.ensures reply)
