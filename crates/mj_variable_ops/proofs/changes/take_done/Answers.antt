use Rattle.std.proofs.Common.{None, refl, subst}
use Rattle.std.specs.Prelude.{Result}
use Rattle.mj_text.specs.declared.fault.Fault.{Fault}
use Rattle.mj_semantics.specs.State.{counted}
use Rattle.mj_semantics.specs.Outcome.{given}
use Rattle.mj_machine.specs.Kept.{Did, in_state, standing, state_of, without}
use Rattle.mj_variable_ops.proofs.changes.take_done.Goals as goal

pub returns : goal.returns
returns c =
    let old = c.args.machine.now in
    let P : Result (Prim.Unit {0}) Fault → Type 0 = λ w.
    Did (λ next. given w (λ u. without old c.args.pc c.args.taken next)) (in_state (counted (state_of old)) (standing old None)) (standing c.settle.new.machine None) in
    (refl, subst P c.reply_done.ensures (c.settle.ensures None))
