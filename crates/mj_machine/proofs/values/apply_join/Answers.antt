use Rattle.std.proofs.Common.{◌+◌, ◌∷◌, ◌++◌, List, ℕ, sym, ap, ◌∙◌}
use Rattle.std.specs.Prelude.{Ok, Err}
use Rattle.mj_text.specs.declared.limit.Limit.{Limit}
use Rattle.mj_text.specs.Limit.{within_limit}
use Rattle.mj_semantics.specs.Outcome.{Timed}
use Rattle.mj_pcode.specs.Machine.{top, below}
use Rattle.mj_machine.specs.Standing.{given_first}
use Rattle.mj_machine.specs.Kept.{stack_of, state_of, restart_of, context_of}
use Rattle.mj_machine.proofs.Asks.{given_is}
use Rattle.mj_machine.proofs.Joins.{joins, joins_not}
use Rattle.mj_machine.proofs.values.apply_join.Goals as goal

pub returns-in-Ok-clause-ok : goal.returns-in-Ok-clause-ok
returns-in-Ok-clause-ok c = λ reply all u. (
  tt,
  λ next n handle replies.
      let old = c.args.machine.now in
      let limit : Limit = old.bounds.limit in
      let l : List ℕ = top (below (stack_of old)) in
      let r : List ℕ = top (stack_of old) in
      let rest : List ℕ → Timed = λ v. next (context_of old) (c.args.pc + 1) (v ∷ below (below (stack_of old))) in
      given_is (within_limit limit (l ++ r)) (Ok (l ++ r)) rest n (handle (restart_of old)) (state_of old) (given_first reply replies)
      (joins limit l r c.join.result _ c.join.ensures.long c.in-Ok.is)
      ∙ ap (λ st. next (context_of old) (c.args.pc + 1) st n (handle (restart_of old)) (state_of old) (given_first reply replies)) (sym c.in-Ok.ensures.ok),
)

pub returns-in-Err-Fault-clause-ok : goal.returns-in-Err-Fault-clause-ok
returns-in-Err-Fault-clause-ok c = λ reply all u. (
  tt,
  λ next n handle replies.
      let old = c.args.machine.now in
      let limit : Limit = old.bounds.limit in
      let l : List ℕ = top (below (stack_of old)) in
      let r : List ℕ = top (stack_of old) in
      let rest : List ℕ → Timed = λ v. next (context_of old) (c.args.pc + 1) (v ∷ below (below (stack_of old))) in
      given_is (within_limit limit (l ++ r)) (Err c.in-Err-Fault.fault) rest n (handle (restart_of old)) (state_of old) (given_first reply replies)
      (joins_not limit l r c.join.result _ c.in-Err-Fault.fault c.join.ensures.long c.join.ensures.within c.in-Err-Fault.is c.in-Err-Fault.field-0-is),
)
