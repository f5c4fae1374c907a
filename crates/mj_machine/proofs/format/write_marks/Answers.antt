use Rattle.std.proofs.Common.{◌≡◌, map, ap, ◌∙◌, sym}
use Rattle.std.proofs.lemmas.Result.{IfOk-weaker}
use Rattle.mj_semantics.specs.Commands.{write, mark_byte}
use Rattle.mj_machine.specs.Kept.{state_of, replied, without}
use Rattle.mj_machine.proofs.Asks.{does_as}
use Rattle.mj_machine.proofs.format.write_marks.Goals as goal

pub returns-clause-ok : goal.returns-clause-ok
returns-clause-ok c =
    let old = c.args.machine.now in
    let bytes = c.deref.result.now in
    let is : bytes ≡ map mark_byte c.args.marks.now = c.deref.ensures.value ∙ c.in_ok-bytes.ensures ∙ ap (map mark_byte) c.as_slice.ensures in
    IfOk-weaker c.put_bytes.result _ _
    (λ step d all u. does_as (λ next. write (map mark_byte c.args.marks.now) (without old c.args.pc 0 next)) (λ next. write bytes (without old c.args.pc 0 next)) old (replied c.args.given) step _
    (λ next n back replies. ap (λ t. write t (without old c.args.pc 0 next) n back (state_of old) replies) (sym is)) d)
    c.put_bytes.ensures.ok
