use Rattle.std.proofs.Common.{◌∙◌, lit<}
use Rattle.std.proofs.lemmas.Fmt.{decimal_digit}
use Rattle.mj_sys.proofs.shared.principal.Goals as goal

pub returns : goal.returns
returns c = c.from_number.ensures ∙ decimal_digit 0 (lit< tt)
