use Rattle.mj_written.proofs.Runs as runs
use Rattle.mj_written.proofs.laws.asks_are_written.Goals as goal

pub returns : goal.returns
returns c = runs.are_written
