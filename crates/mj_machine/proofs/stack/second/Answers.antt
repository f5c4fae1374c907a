use Rattle.std.proofs.Common.{◌∙◌, arith}
use Rattle.mj_machine.proofs.Operands.{second_is}
use Rattle.mj_machine.proofs.stack.second.Goals as goal

pub returns : goal.returns
returns c = c.index-stack-n.is ∙ second_is c.args.stack.now _ (omega (arith, c.requires))
