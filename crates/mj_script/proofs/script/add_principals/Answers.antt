use Rattle.std.proofs.Common.{◌∙◌, lit<}
use Rattle.std.proofs.lemmas.Fmt.{decimal_digit}
use Rattle.mj_script.proofs.Adding.{principals_on}
use Rattle.mj_script.proofs.script.add_principals.Goals as goal

pub principals-preserved : goal.principals-preserved
principals-preserved c =
    principals_on c.principals.counter c.from_number-name.result c.principals.pool c.put.new.pool
    (c.from_number-name.ensures ∙ decimal_digit 0 (lit< tt)) c.principals.invariant c.in_ok-put.ensures
