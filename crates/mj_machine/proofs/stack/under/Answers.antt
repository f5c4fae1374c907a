use Rattle.mj_machine.proofs.Operands.{reverse_take}
use Rattle.mj_machine.proofs.stack.under.Goals as goal

pub returns : goal.returns
returns c = reverse_take c.args.stack.now c.args.count
