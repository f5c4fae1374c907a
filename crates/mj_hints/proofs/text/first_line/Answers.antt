use Rattle.mj_hints.proofs.Lines.{first_cut, first_only}
use Rattle.mj_hints.proofs.text.first_line.Goals as goal

pub returns-in-Some : goal.returns-in-Some
returns-in-Some c = first_cut c.args.bytes.now c.in-Some.line.now c.in-Some.behind.now _ c.in-Some.ensures.one c.in-Some.ensures.all c.stripped.ensures

pub returns-in-None : goal.returns-in-None
returns-in-None c = first_only c.args.bytes.now c.requires c.in-None.ensures.last
