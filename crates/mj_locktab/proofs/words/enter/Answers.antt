use Rattle.std.proofs.Common.{ap, ◌∙◌, List, ℕ}
use Rattle.std.specs.Map.{lookup}
use Rattle.std.specs.BTreeMap.{is_at}
use Rattle.mj_locktab.specs.Trees.{word_cmp, spelled}
use Rattle.mj_locktab.proofs.Spelled.{lookup_spelled}
use Rattle.mj_locktab.proofs.words.enter.Goals as goal

pub returns-clause-node : goal.returns-clause-node
returns-clause-node c =
    c.get.ensures.value
    ∙ lookup_spelled (word_cmp c.bytes.result.now) c.args.words.now.entries
    ∙ ap (λ (w : List ℕ). lookup (is_at (word_cmp w)) (spelled c.args.words.now.entries)) c.bytes.ensures.value
