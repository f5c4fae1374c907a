use Rattle.std.proofs.Common.{◌≡◌, ◌+◌, ◌∷◌, List, ℕ, reverse, sym, ap, ◌∙◌}
use Rattle.std.specs.Prelude.{Ok}
use Rattle.mj_text.specs.declared.limit.Limit.{Limit}
use Rattle.mj_num.specs.Number.{canonic_text}
use Rattle.mj_oper.specs.Operators.{binary_value}
use Rattle.mj_semantics.specs.Outcome.{Timed}
use Rattle.mj_pcode.specs.Machine.{top, below}
use Rattle.mj_machine.specs.Standing.{given_first}
use Rattle.mj_machine.specs.Kept.{stack_of, state_of, restart_of, context_of}
use Rattle.mj_machine.proofs.Asks.{given_is}
use Rattle.mj_machine.proofs.values.apply_binary.Goals as goal

pub returns-in-Some-clause-ok : goal.returns-in-Some-clause-ok
returns-in-Some-clause-ok c = λ reply all u. (
  tt,
  λ next n handle replies.
      let old = c.args.machine.now in
      let limit : Limit = old.bounds.limit in
      let st = stack_of old in
      let v : List ℕ = canonic_text c.in-Some.number in
      let l : top (below st) ≡ c.second.result.now = sym (c.second.ensures ∙ ap (λ l. top (below (reverse l))) c.deref.ensures.value) in
      let r : top st ≡ c.top.result.now = sym (c.top.ensures ∙ ap (λ l. top (reverse l)) c.deref-2.ensures.value) in
      let rest : List ℕ → Timed = λ v. next (context_of old) (c.args.pc + 1) (v ∷ below (below st)) in
      given_is (binary_value limit c.args.op (top (below st)) (top st)) (Ok v) rest n (handle (restart_of old)) (state_of old) (given_first reply replies)
      ((λ i. binary_value limit c.args.op (l i) (r i)) ∙ c.in-Some.ensures limit)
      ∙ ap (λ s. next (context_of old) (c.args.pc + 1) s n (handle (restart_of old)) (state_of old) (given_first reply replies))
      (sym (c.fold.ensures ∙ ap (λ v. v ∷ below (below st)) c.to_text.ensures)),
)
