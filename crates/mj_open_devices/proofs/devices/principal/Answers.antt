use Rattle.std.proofs.Common.{◌∙◌, arith}
use Rattle.std.proofs.lemmas.Fmt.{decimal_digit}
use Rattle.mj_open_devices.proofs.devices.principal.Goals as goal

pub returns : goal.returns
returns c = c.from_number.ensures ∙ decimal_digit 0 (omega arith)
