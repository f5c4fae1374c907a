use Rattle.std.proofs.Common.{◌-◌, ◌∙◌, ap, take, reverse, sym}
use Rattle.mj_machine.proofs.Operands.{reverse_take, below_is}
use Rattle.mj_machine.proofs.stack.take_one.Goals as goal

pub returns : goal.returns
returns c =
    ap reverse c.pop-top.ensures.rest
    ∙ ap (λ m. reverse (take (m - 1) c.args.stack.now.items)) c.args.stack.now.ok.0
    ∙ reverse_take c.args.stack.now.items 1 ∙ sym (below_is (reverse c.args.stack.now.items))
