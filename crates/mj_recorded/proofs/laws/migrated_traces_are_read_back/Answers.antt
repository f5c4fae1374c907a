use Rattle.mj_recorded.proofs.Migrated as migrated
use Rattle.mj_recorded.proofs.laws.migrated_traces_are_read_back.Goals as goal

pub returns : goal.returns
returns c = migrated.read_back
