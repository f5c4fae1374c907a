use Rattle.std.proofs.Common.{length, sym, ◌∙◌}
use Rattle.mj_rou.proofs.Lines.{last_line, line_before, not_empty}
use Rattle.mj_rou.proofs.file.first_line.Goals as goal

pub returns-in-None-clause-lines : goal.returns-in-None-clause-lines
returns-in-None-clause-lines c = last_line c.args.bytes.now (not_empty (length c.args.bytes.now) c.if-is_empty.ensures) (sym c.newline.ensures ∙ c.in-None.is)

pub returns-in-Some-clause-lines : goal.returns-in-Some-clause-lines
returns-in-Some-clause-lines c = rw c.stripped.ensures (line_before c.args.bytes.now c.in-Some.end (sym c.newline.ensures ∙ c.in-Some.is))
