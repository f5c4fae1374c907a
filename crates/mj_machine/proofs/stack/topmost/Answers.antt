use Rattle.std.proofs.Common.{◌-◌, ◌∙◌, length, sym}
use Rattle.std.proofs.lemmas.List.{take_rest}
use Rattle.mj_machine.proofs.Operands.{taken}
use Rattle.mj_machine.proofs.stack.topmost.Goals as goal

pub returns : goal.returns
returns c = take_rest c.args.stack.now (length c.args.stack.now - c.args.count) ∙ sym (taken c.args.stack.now c.args.count)
