use Rattle.std.proofs.Common.{◌≡◌, [], ◌+◌, drop, sym, ap, ◌∙◌, subst}
use Rattle.std.specs.Prelude.{Result, OnErr}
use Rattle.mj_text.specs.declared.fault.Failure.{Failure}
use Rattle.mj_store.specs.Changes.{is_too_deep}
use Rattle.mj_semantics.specs.State.{State, hold}
use Rattle.mj_locals.specs.Held.{Held}
use Rattle.mj_semantics.specs.Outcome.{change, fault}
use Rattle.mj_machine.specs.Standing.{given_first}
use Rattle.mj_machine.specs.Kept.{restart_of, context_of, stack_of, state_of, in_locals}
use Rattle.mj_variable_ops.proofs.Altered.{put_too_deep, refused_put}
use Rattle.mj_variable_ops.proofs.merges.put_local.Goals as goal

pub returns-in-Fault-clause-ok : goal.returns-in-Fault-clause-ok
returns-in-Fault-clause-ok c = λ reply. (
  tt,
  λ next n handle replies.
      let old = c.args.machine.now in
      let x = c.args.name.now in
      let f = c.in-Fault.fault in
      let all = given_first reply replies in
      let P : Result (Prim.Unit {0}) Failure → Type 0 = λ q. OnErr q (c.put.new.self ≡ old.locals) in
      let kept : c.put.new.self ≡ old.locals = subst P c.in-Err.is c.put.ensures.err in
      let why = refused_put (is_too_deep x old.held) c.in-Err.failure f c.put.result c.in-Err.is c.in-Fault.is c.put.ensures.error in
      let there : Held → State = λ h. in_locals h (state_of old) in
      put_too_deep x old.held (change (hold []) (next (context_of old) (c.args.pc + 1) (drop c.args.count (stack_of old)))) n (handle (restart_of old)) (state_of old) all c.requires.local why.0
      ∙ ap (λ q. fault q n (handle (restart_of old)) (state_of old) all) (sym why.1)
      ∙ ap (λ l. fault f n (handle (restart_of old)) (there l) all) (sym kept),
)
