use Rattle.std.proofs.Common.{◌≡◌, ◌-◌, ◌∙◌, ap, take, length, reverse, arith}
use Rattle.mj_machine.proofs.Operands.{reverse_take}
use Rattle.mj_machine.proofs.stack.take_off.Goals as goal

pub returns : goal.returns
returns c =
    let e : c.len.result - c.args.count ≡ length c.args.stack.now.items - c.args.count = omega (arith, c.len.ensures, c.args.stack.now.ok.0) in
    ap reverse c.truncate.ensures.items
    ∙ ap (λ m. reverse (take m c.args.stack.now.items)) e
    ∙ reverse_take c.args.stack.now.items c.args.count
