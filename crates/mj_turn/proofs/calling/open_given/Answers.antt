use Rattle.std.proofs.Common.{◌≡◌, ℕ, List, reverse, Option, ap, ◌∙◌, subst}
use Rattle.std.specs.Prelude.{IfOk}
use Rattle.mj_ask.specs.declared.ask.Reply.{Reply}
use Rattle.mj_pcode.specs.Machine.{spread, operands, given_count}
use Rattle.mj_turn.specs.Enters.{found_of, opened_at}
use Rattle.mj_machine.specs.Kept.{standing, stack_of, state_of, in_state}
use Rattle.mj_turn.proofs.calling.open_given.Goals as goal

pub returns-clause-ok : goal.returns-clause-ok
returns-clause-ok c =
    let old = c.args.machine.now in
    let g = c.args.given.now in
    let top = c.topmost-operands.ensures ∙ ap (λ l. operands c.given_count.result (reverse l)) c.deref.ensures.value ∙ ap (λ k. operands k (stack_of old)) c.given_count.ensures.value in
    let values : c.as_mut_slice.result.now ≡ spread g (operands (given_count g) (stack_of old)) = c.as_mut_slice.ensures.value ∙ c.in_ok-fill.ensures ∙ ap (spread g) top in
    subst (λ (vs : List (Option (List ℕ))). IfOk c.open_frame.result (λ done. (reply : Option Reply)
    → standing c.open_frame.new.machine reply ≡ in_state (opened_at c.args.function (found_of c.args.to.now) vs (state_of old)) (standing old reply))) values c.open_frame.ensures.ok
