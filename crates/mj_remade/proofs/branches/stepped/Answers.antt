use Rattle.mj_remade.proofs.Keeping.{step_marks}
use Rattle.mj_remade.proofs.branches.stepped.Goals as goal

pub returns : goal.returns
returns g c = step_marks g.O.Opening.opening c.args.debugger.now c.step.new.self c.args.step c.step.result c.step.ensures
