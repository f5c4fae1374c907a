use Rattle.std.proofs.Common.{ap}
use Rattle.mj_semantics.specs.State.{has_failed, principal}
use Rattle.mj_open_devices.specs.Opened.{Opened, alone}
use Rattle.mj_open_devices.proofs.devices.Devices.principal_failed.Goals as goal

pub returns : goal.returns
returns c = ap (λ (o : Opened). has_failed principal (alone o)) c.self.view_is
