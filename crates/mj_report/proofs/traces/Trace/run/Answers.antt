use Rattle.mj_core.specs.Runs.{places_lent, places_at}
use Rattle.mj_report.proofs.ReadBack.{back}
use Rattle.mj_report.proofs.traces.Trace.run.Goals as goal

pub returns-clause-read : goal.returns-clause-read
returns-clause-read g c most short bound =
    back c.traces_are_read_back.ensures c.args.image.now g.O.Opening.opening (g.H.Events.history c.args.told.now) (places_at (places_lent c.args.places.now))
    c.args.self.now.opening.items c.requires.head c.requires.run c.requires.placed most short bound c.bytes.result c.bytes.ensures.text c.bytes.ensures.sized
