-- An access that can be written is answered by what fits.
use Rattle.std.proofs.Common.{sym, ◌∙◌}
use Rattle.mj_ask.proofs.Fitting.{answered, served}
use Rattle.mj_ask.proofs.formed.is_access.Goals as goal

pub returns-clause-served : goal.returns-clause-served
returns-clause-served c = λ e. served c.args.access.now (sym c.is_to_global.ensures ∙ e)

pub returns-clause-answered : goal.returns-clause-answered
returns-clause-answered c = answered c.args.access.now
