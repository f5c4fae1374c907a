use Rattle.mj_begin.proofs.Principals.{enough}
use Rattle.mj_begin.proofs.Starting.{are_bare_so}
use Rattle.mj_begin.proofs.beginning.begun.Goals as goal

pub invariant_of-beginning-clause-fits : goal.invariant_of-beginning-clause-fits
invariant_of-beginning-clause-fits g c = enough c.args.order.now.devices.items c.args.rest.1.2 c.args.starts.items c.requires.pool c.requires.few

pub invariant_of-beginning-clause-bare : goal.invariant_of-beginning-clause-bare
invariant_of-beginning-clause-bare g c = are_bare_so c.args.order.now.starts.items c.args.order.now.files.items c.args.starts.items c.requires.starts
