use Rattle.std.proofs.Common.{ap, length, arith}
use Rattle.std.proofs.lemmas.List.Elements.{All-rest}
use Rattle.mj_dev.specs.Heard.{IsFresh}
use Rattle.mj_dev.proofs.row.Row.take.Goals as goal

pub invariant_of-self-2 : goal.invariant_of-self-2
invariant_of-self-2 g c = record {
  few = omega (arith, ap length c.in_ok-device.ensures.items);
  fresh = All-rest (λ d. IsFresh (g.D.Device.failures d) (g.D.Device.taken d) (g.D.Device.given d)) _ _ _ c.in_ok-device.ensures.items c.self.invariant.fresh;
}
