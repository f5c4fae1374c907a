use Rattle.mj_locktab.proofs.Copied.{holds_copied, parts_copied}
use Rattle.mj_locktab.proofs.held.copy.Goals as goal

pub returns-clause-holds : goal.returns-clause-holds
returns-clause-holds c = holds_copied c.args.parts.now.entries c.in_ok-copy.copy.entries c.in_ok-copy.ensures.cases

pub returns-clause-parts : goal.returns-clause-parts
returns-clause-parts c = parts_copied c.args.parts.now.entries c.in_ok-copy.copy.entries c.in_ok-copy.ensures.cases c.requires
