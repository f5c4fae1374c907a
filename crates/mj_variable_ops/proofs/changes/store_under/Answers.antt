use Rattle.std.proofs.Common.{◌≡◌, ℕ, ◌+◌, drop, List, refl, sym, ap, ◌∙◌, reverse}
use Rattle.std.specs.Prelude.{Ok}
use Rattle.mj_subs.specs.Name.{Name}
use Rattle.mj_locals.specs.Held.{Held, with_now}
use Rattle.mj_store.specs.Changes.{after_set}
use Rattle.mj_store.specs.declared.access.Access.TheVariants as accesses
use Rattle.mj_semantics.specs.State.{State}
use Rattle.mj_semantics.specs.Outcome.{Timed}
use Rattle.mj_pcode.specs.Machine.{top, operands}
use Rattle.mj_machine.specs.Standing.{given_first}
use Rattle.mj_machine.specs.Kept.{restart_of, context_of, stack_of, state_of, in_locals, without}
use Rattle.mj_variable_ops.specs.Answers.{local_with}
use Rattle.mj_variable_ops.proofs.Altered.{changed_made}
use Rattle.mj_variable_ops.proofs.changes.store_under.Goals as goal

pub returns-clause-ok : goal.returns-clause-ok
returns-clause-ok c = λ reply.
    let old = c.args.machine.now in
    let depth = c.args.depth in
    let ss : List (List ℕ) = operands c.args.count (drop depth.above (stack_of old)) in
    let x : Name = local_with c.args.word.now ss in
    let v = top (stack_of old) in
    let under = c.below_both-subscripts.ensures ∙ ap (λ l. operands c.args.count (drop depth.above (reverse l))) c.deref.ensures.value in
    let value : c.top.result.now ≡ v = c.top.ensures ∙ ap (λ l. top (reverse l)) c.deref-2.ensures.value in
    let held : c.set_under.new.self ≡ with_now (after_set old.locals.now x v) old.locals =
    c.in_ok-set_under.ensures.ok ∙ (λ i. with_now (after_set old.locals.now (local_with c.args.word.now (under i)) (value i)) old.locals) in
    let there : Held → State = λ h. in_locals h (state_of old) in (
      tt,
      λ next n handle replies.
          let rest : Timed = without old c.args.pc depth.taken next in
          changed_made (accesses.Set x v) rest n (handle (restart_of old)) (state_of old) (Ok tt) (given_first reply replies) refl refl
          ∙ ap (λ h. rest n (handle (restart_of old)) (there h) (given_first reply replies)) (sym held)
          ∙ ap (λ st. next (context_of old) (c.args.pc + 1) st n (handle (restart_of old)) (there c.set_under.new.self) (given_first reply replies)) (sym c.take_off.ensures),
    )
