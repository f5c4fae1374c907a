use Rattle.std.proofs.Common.{rules}
use Rattle.std.proofs.lemmas.Fn.{filter_same}
use Rattle.std.specs.Option.{is_none}
use Rattle.mj_store.specs.Questions.{rest_of}
use Rattle.mj_store.proofs.flat.kill.Goals as goal

-- what isn't at the name or below it is kept
pub returns : goal.returns
returns c = filter_same _ (λ e. is_none (rest_of c.args.name.now e.0)) _ (λ x r f' k. search rules) _ _ c.retain.ensures.filtered
