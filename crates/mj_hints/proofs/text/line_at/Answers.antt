use Rattle.mj_hints.proofs.Lines.{line_there, no_line_at}
use Rattle.mj_hints.proofs.text.line_at.Goals as goal

pub returns-in-Some : goal.returns-in-Some
returns-in-Some c = line_there c.args.place c.args.bytes.now c.in-Some._front.now c.in-Some.rest.now c.first_line.result.0.now c.first_line.result.1.now c.in-Some.ensures.cut c.first_line.ensures

pub returns-in-None : goal.returns-in-None
returns-in-None c = no_line_at c.args.place c.args.bytes.now c.in-None.ensures.cut
