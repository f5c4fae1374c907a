use Rattle.std.proofs.Common.{length, sym, ◌∙◌}
use Rattle.mj_steps.proofs.Lines.{last_line, line_before, not_empty}
use Rattle.mj_steps.proofs.line.first_line.Goals as goal

pub returns-in-None-clause-lines : goal.returns-in-None-clause-lines
returns-in-None-clause-lines c = last_line c.args.bytes.now (not_empty (length c.args.bytes.now) c.if-is_empty.ensures) (sym c.line_end.ensures ∙ c.in-None.is)

pub returns-in-Some-clause-lines : goal.returns-in-Some-clause-lines
returns-in-Some-clause-lines c = line_before c.args.bytes.now c.in-Some.end (sym c.line_end.ensures ∙ c.in-Some.is)
