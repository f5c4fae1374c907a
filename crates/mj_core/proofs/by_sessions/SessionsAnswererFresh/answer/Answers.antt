use Rattle.std.specs.Prelude.{option_copied}
use Rattle.mj_dev.specs.Told.{IsToldBy}
use Rattle.mj_core.proofs.Serving.{serves}
use Rattle.mj_core.proofs.Stepping.{unshared}
use Rattle.mj_core.proofs.by_sessions.SessionsAnswererFresh.answer.Goals as goal

pub serve-requires : goal.serve-requires
serve-requires g c = unshared c.args.ask.now c.requires

pub returns : goal.returns
returns g c =
    let tells = IsToldBy g.D.Device.inside g.D.Device.failures g.D.Device.taken g.D.Device.given g.D.Device.IsTold in
    serves tells c.args.self.now c.serve.new.self c.args.ask.now c.args.late (option_copied c.args.given) c.requires c.serve.result c.serve.ensures.answers
    c.serve.ensures.asked c.serve.ensures.told c.serve.ensures.there
