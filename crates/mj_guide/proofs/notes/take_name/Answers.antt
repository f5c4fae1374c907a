use Rattle.std.proofs.Common.{rules}
use Rattle.std.specs.Prelude.{not}
use Rattle.std.proofs.lemmas.Fn.{filter_same}
use Rattle.mj_subs.specs.Name.{names_eq}
use Rattle.mj_guide.proofs.notes.take_name.Goals as goal

pub returns : goal.returns
returns c = filter_same _ (λ own. not (names_eq own c.args.name.now)) _ (λ x r f' k. search rules) _ _ c.retain.ensures.filtered
