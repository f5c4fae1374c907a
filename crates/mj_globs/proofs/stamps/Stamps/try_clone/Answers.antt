use Rattle.std.proofs.Common.{◌∙◌}
use Rattle.mj_globs.proofs.Spelled.{copy_spelled}
use Rattle.mj_globs.proofs.stamps.Stamps.try_clone.Goals as goal

pub returns : goal.returns
returns c = copy_spelled c.self.inside.words.entries c.in_ok-words.words.entries c.in_ok-words.ensures.cases ∙ c.self.view_is
