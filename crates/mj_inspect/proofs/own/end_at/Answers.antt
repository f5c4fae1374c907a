use Rattle.std.proofs.Common.{◌∙◌, sym}
use Rattle.mj_inspect.proofs.Walked.{from_before, from_here}
use Rattle.mj_inspect.proofs.own.end_at.Goals as goal

pub returns-then-closes_here : goal.returns-then-closes_here
returns-then-closes_here g c = from_here c.args.job c.args.core.now.history c.args.at (sym c.closes_here.ensures ∙ c.if-closes_here.true)

pub returns : goal.returns
returns g c = from_before c.args.job c.args.core.now.history c.args.at c.args.last c.requires
