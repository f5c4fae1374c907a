use Rattle.std.proofs.Common.{ap, ◌∙◌, List, ℕ}
use Rattle.std.specs.BTreeMap.{insert_entry}
use Rattle.mj_globs.specs.Stamps.{Stamps}
use Rattle.mj_globs.specs.Words.{spelled}
use Rattle.mj_globs.proofs.Groups.{W}
use Rattle.mj_globs.proofs.Spelled.{insert_spelled}
use Rattle.mj_globs.proofs.stamps.Stamps.add.Goals as goal

pub returns-clause-ok : goal.returns-clause-ok
returns-clause-ok c =
    ap spelled c.in_ok-insert.ensures.entries
    ∙ insert_spelled c.self.inside.words.entries c.in_ok-from_slice.field-0 1
    ∙ ap (λ (w : List ℕ). insert_entry W (spelled c.self.inside.words.entries) w 1) c.in_ok-from_slice.ensures.items
    ∙ ap (λ (s : Stamps). insert_entry W s c.args.word.now 1) c.self.view_is
