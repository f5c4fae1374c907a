use Rattle.std.proofs.Common.{refl}
use Rattle.mj_sessions.proofs.held.Held.end.Goals as goal

pub returns-clause-asked : goal.returns-clause-asked
returns-clause-asked g c =
    rw (← c.self.view_is, c.to_call.ensures) (
      c.end-did.result.0,
      (
        g.D.Device.inside c.end-did.result.1,
        (
          c.end-did.result.1,
          record {
            of_inside = refl;
            of_failures = c.end-did.ensures.device.counted;
            of_taken = c.end-did.ensures.device.nothing_taken;
            of_given = c.end-did.ensures.device.nothing_given;
          },
          c.end-did.ensures.told,
        ),
      ),
      refl,
    )
