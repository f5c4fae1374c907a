use Rattle.std.proofs.Common.{sym}
use Rattle.mj_num.proofs.Laws.{is_canonic-kept}
use Rattle.mj_num.proofs.digits.is_canonic.Goals as goal

pub returns-in-Some : goal.returns-in-Some
returns-in-Some c = sym (is_canonic-kept c.args.text.now c.in-Some.field-0 c.in-Some.ensures)
