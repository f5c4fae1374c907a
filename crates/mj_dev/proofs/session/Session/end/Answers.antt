use Rattle.mj_dev.specs.Heard.{IsFew}
use Rattle.mj_dev.proofs.Talks.{Talks-end}
use Rattle.mj_dev.proofs.session.Session.end.Goals as goal

pub returns-clause-protocol : goal.returns-clause-protocol
returns-clause-protocol g c = λ old talk e.
    let few : IsFew c.args.self.state c.args.self.failures = rw (← c.self.view_is) c.self.invariant.few in
    Talks-end old c.args.self talk c.end-did.result few c.end-did.ensures.answered e
