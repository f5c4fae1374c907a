use Rattle.std.proofs.Common.{take}
use Rattle.std.proofs.lemmas.Option.{IfSome_then}
use Rattle.mj_core.specs.Runs.{start_in}
use Rattle.mj_inspect.specs.Waits.{numbered, started_in}
use Rattle.mj_inspect.proofs.Started.{is_first, is_later, nowhere_found}
use Rattle.mj_inspect.proofs.specials.start_of.Goals as goal

pub returns-in-Some-clause-some : goal.returns-in-Some-clause-some
returns-in-Some-clause-some g c =
    is_first (start_in c.args.number c.in-Some.start.now) (numbered 1 c.args.starts.now) (started_in (take c.args.place c.args.core.now.history)) c.in-Some.ensures.some

pub returns-in-None-clause-some : goal.returns-in-None-clause-some
returns-in-None-clause-some g c =
    IfSome_then c.later_start.result c.later_start.ensures.some
    (λ start is. is_later (start_in c.args.number start.now) (numbered 1 c.args.starts.now) (started_in (take c.args.place c.args.core.now.history)) is)

pub returns-in-None-clause-none : goal.returns-in-None-clause-none
returns-in-None-clause-none g c =
    nowhere_found c.later_start.result c.args.number (numbered 1 c.args.starts.now) (started_in (take c.args.place c.args.core.now.history)) c.in-None.ensures.none
    c.later_start.ensures.none
