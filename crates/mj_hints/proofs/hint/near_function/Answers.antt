use Rattle.std.proofs.Common.{ap, ◌∙◌}
use Rattle.mj_hints.specs.Hints.{nearly_or}
use Rattle.mj_hints.specs.Near.{near_of, function_names}
use Rattle.mj_hints.specs.declared.phrases.Hint.{Hint}
use Rattle.mj_hints.proofs.hint.near_function.Goals as goal

pub returns : goal.returns
returns c = c.near_or.ensures ∙ ap (λ (h : Hint). nearly_or (near_of c.args.word.now function_names) h) c.unknown_function-other.ensures.value
