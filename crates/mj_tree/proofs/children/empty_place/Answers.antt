use Rattle.std.proofs.Common.{ap, ◌∙◌}
use Rattle.mj_num.specs.Number.{canonic_text}
use Rattle.mj_tree.proofs.Offsets.{in_words}
use Rattle.mj_tree.proofs.Added.{written_number}
use Rattle.mj_tree.proofs.children.empty_place.Goals as goal

pub returns-clause-number : goal.returns-clause-number
returns-clause-number c = written_number c.from_text.result c.args.number c.requires (c.from_text.ensures ∙ c.from_number.ensures ∙ ap canonic_text (in_words c.args.number c.requires))
