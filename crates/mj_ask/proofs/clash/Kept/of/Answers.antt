-- What is kept is formed, and tells answers apart.
use Rattle.mj_ask.proofs.Keeping.{keeps}
use Rattle.mj_ask.proofs.clash.Kept.of.Goals as goal

pub returns-clause-kept : goal.returns-clause-kept
returns-clause-kept c = keeps c.args.answer c.made.result c.made.ensures
