use Rattle.std.proofs.Common.{ap, ◌∙◌, nat_cmp}
use Rattle.std.specs.Cmp.Lexicographic.{slice_cmp}
use Rattle.mj_globs.specs.Words.{spelled}
use Rattle.mj_globs.proofs.Spelled.{remove_spelled}
use Rattle.mj_globs.proofs.words.remove.Goals as goal

pub returns : goal.returns
returns c = ap spelled c.remove-gone.ensures.entries ∙ remove_spelled (slice_cmp nat_cmp c.args.word.now) c.args.words.now.entries
