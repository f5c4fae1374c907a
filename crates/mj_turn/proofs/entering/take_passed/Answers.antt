use Rattle.std.proofs.Common.{◌≡◌, ◌-◌, ◌∙◌, ap, take, length, reverse, arith}
use Rattle.mj_machine.proofs.Operands.{reverse_take}
use Rattle.mj_turn.proofs.entering.take_passed.Goals as goal

pub returns-clause-left : goal.returns-clause-left
returns-clause-left c =
    let e : c.len.result - c.args.count ≡ length c.args.stack.now.items - c.args.count = omega (arith, c.len.ensures, c.args.stack.now.ok.0) in
    ap reverse c.truncate.ensures.items
    ∙ ap (λ m. reverse (take m c.args.stack.now.items)) e
    ∙ reverse_take c.args.stack.now.items c.args.count
