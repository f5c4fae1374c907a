use Rattle.mj_txn.proofs.Testing.{found_if}
use Rattle.mj_txn.proofs.committing.commit.Goals as goal

pub returns-clause-told : goal.returns-clause-told
returns-clause-told c = found_if c.args.log.now.transaction c.args.globals.now.content c.made.result c.made.ensures.outcome
