use Rattle.mj_files.specs.Named.{names_of}
use Rattle.mj_jobs.specs.Rows.{rows_limit}
use Rattle.mj_begin.proofs.Untaken.{untaken}
use Rattle.mj_begin.proofs.beginning.pool.Goals as goal

pub returns-clause-whole : goal.returns-clause-whole
returns-clause-whole g c = untaken (names_of c.args.devices.now) rows_limit c.in_ok-pool_of.field-0 c.in_ok-pool_of.ensures
