use Rattle.std.proofs.Common.{sym, ◌∙◌}
use Rattle.mj_hints.proofs.Lines.{only_one, cut_one, cut_all}
use Rattle.mj_hints.proofs.text.cut.Goals as goal

pub returns-in-None-clause-last : goal.returns-in-None-clause-last
returns-in-None-clause-last c = only_one c.args.bytes.now (sym c.newline.ensures ∙ c.in-None.is)

pub returns-in-Some-clause-one : goal.returns-in-Some-clause-one
returns-in-Some-clause-one c = cut_one c.args.bytes.now c.in-Some.end (sym c.newline.ensures ∙ c.in-Some.is)

pub returns-in-Some-clause-all : goal.returns-in-Some-clause-all
returns-in-Some-clause-all c = cut_all c.args.bytes.now c.in-Some.end (sym c.newline.ensures ∙ c.in-Some.is)
