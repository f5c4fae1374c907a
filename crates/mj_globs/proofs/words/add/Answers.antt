use Rattle.std.proofs.Common.{ap, ◌∙◌, List, ℕ}
use Rattle.std.specs.BTreeMap.{insert_entry}
use Rattle.mj_globs.specs.Words.{spelled}
use Rattle.mj_globs.proofs.Groups.{W}
use Rattle.mj_globs.proofs.Spelled.{insert_spelled}
use Rattle.mj_globs.proofs.words.add.Goals as goal

pub returns-clause-ok : goal.returns-clause-ok
returns-clause-ok c =
    ap spelled c.in_ok-insert.ensures.entries
    ∙ insert_spelled c.args.words.now.entries c.in_ok-from_slice.field-0 c.args.tree
    ∙ ap (λ (w : List ℕ). insert_entry W (spelled c.args.words.now.entries) w c.args.tree) c.in_ok-from_slice.ensures.items
