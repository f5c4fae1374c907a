use Rattle.std.proofs.Common.{◌≡◌, List, ℕ, reverse, ap, ◌∙◌, subst}
use Rattle.mj_text.specs.declared.limit.Limit.{Limit}
use Rattle.mj_strfn.specs.Functions.{AnswersOrMemory}
use Rattle.mj_semantics.specs.Functions.{call_value}
use Rattle.mj_pcode.specs.Machine.{operands}
use Rattle.mj_machine.specs.Kept.{stack_of}
use Rattle.mj_machine.proofs.values.call.Goals as goal

pub returns-clause-ok : goal.returns-clause-ok
returns-clause-ok c = λ reply all u.
    let limit : Limit = c.args.machine.now.bounds.limit in
    let t : c.topmost.result.now ≡ operands c.args.count (stack_of c.args.machine.now) = c.topmost.ensures ∙ ap (λ l. operands c.args.count (reverse l)) c.deref.ensures.value in
    let P : List (List ℕ) → Type 0 = λ x. AnswersOrMemory (call_value limit c.args.function x) c.value_of-value.result in
    c.in_ok-put_value.ensures.ok (call_value limit c.args.function (operands c.args.count (stack_of c.args.machine.now))) (subst P t c.value_of-value.ensures) reply
