use Rattle.mj_dev.specs.Told.{IsToldBy}
use Rattle.mj_fit.proofs.Serving as serving
use Rattle.mj_fit.proofs.laws.no_talk_is_unfit.Goals as goal

pub returns : goal.returns
returns g c = serving.no_talk_is_unfit (IsToldBy g.D.Device.inside g.D.Device.failures g.D.Device.taken g.D.Device.given g.D.Device.IsTold)
