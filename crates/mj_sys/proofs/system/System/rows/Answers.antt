use Rattle.mj_sys.proofs.Rows.{rows_kept}
use Rattle.mj_sys.proofs.system.System.rows.Goals as goal

pub returns-clause-kept : goal.returns-clause-kept
returns-clause-kept g c = rows_kept g.O.Opening.opening c.args.self.now.history

pub returns-clause-none_open : goal.returns-clause-none_open
returns-clause-none_open g c = c.self.invariant.0.none_open

pub returns-clause-none_ended : goal.returns-clause-none_ended
returns-clause-none_ended g c = c.self.invariant.0.none_ended
