use Rattle.std.proofs.Common.{sym, ◌∙◌}
use Rattle.mj_dev.specs.Supply.{is_line_end}
use Rattle.mj_dev.proofs.Places.{position_or_len-none}
use Rattle.mj_dev.proofs.lines.line_end.Goals as goal

pub returns-in-None : goal.returns-in-None
returns-in-None c = sym (position_or_len-none is_line_end c.args.bytes.now (sym c.found_end.ensures ∙ c.in-None.is))
