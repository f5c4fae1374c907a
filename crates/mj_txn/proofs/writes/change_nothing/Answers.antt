use Rattle.std.proofs.Common.{◌≡◌, List, [], ◌∷◌, ◌++◌, refl, ap, ◌∙◌}
use Rattle.mj_globs.specs.declared.change.Change.{Change}
use Rattle.mj_txn.specs.Commits.{changes_of}
use Rattle.mj_txn.proofs.Replies.{changes_next}
use Rattle.mj_txn.proofs.writes.change_nothing.Goals as goal

pub loop-entry-preserved : goal.loop-entry-preserved
loop-entry-preserved c =
    let nothing : changes_of (c.entry-item.result ∷ []) ≡ [] = c.if-may_change.ensures refl in
    changes_next c.args.entries.now c.loop-entry.entry-index c.entry-item.result c.loop-entry-test.true c.entry-item.is
    ∙ ap (λ (cs : List Change). cs ++ changes_of (c.entry-item.result ∷ [])) c.loop-entry.invariant
    ∙ nothing
