use Rattle.mj_run.proofs.Stepping.{if_none}
use Rattle.mj_run.proofs.jobs.Jobs+D+Sessions+D+O.go.Goals as goal

pub returns-in-None-clause-in_turn : goal.returns-in-None-clause-in_turn
returns-in-None-clause-in_turn g c = if_none c.args.steps c.in_turn.ensures.in_turn
