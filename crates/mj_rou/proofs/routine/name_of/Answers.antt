use Rattle.std.proofs.Common.{sym}
use Rattle.mj_rou.proofs.Labels.{no_name, name_utf8}
use Rattle.mj_rou.proofs.routine.name_of.Goals as goal

pub returns-then-not-is_name : goal.returns-then-not-is_name
returns-then-not-is_name c = no_name c.args.name.now (sym c.if-not-is_name.ensures)

pub returns-in-Err : goal.returns-in-Err
returns-in-Err c = λ h. absurd (c.in-Err.ensures.cases.0 (name_utf8 c.args.name.now h))
