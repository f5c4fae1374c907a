use Rattle.std.proofs.Common.{ap, ◌∙◌}
use Rattle.mj_open_devices.specs.declared.devices.Spot.{Spot}
use Rattle.mj_open_devices.proofs.Known.{spot_column}
use Rattle.mj_open_devices.proofs.devices.Devices.column.Goals as goal

pub returns-clause-value : goal.returns-clause-value
returns-clause-value c = ap (λ (s : Spot). s.column) c.current_spot.ensures.value ∙ spot_column c.args.self.now.current c.args.self.now
