use Rattle.std.proofs.Common.{◌∙◌, ap}
use Rattle.mj_num.specs.Number.{canonic_text}
use Rattle.mj_oper.proofs.Texts.{written_truth}
use Rattle.mj_machine.proofs.quiet.truth_text.Goals as goal

pub returns : goal.returns
returns c = c.to_text.ensures ∙ ap canonic_text c.from_truth.ensures ∙ written_truth c.args.truth
