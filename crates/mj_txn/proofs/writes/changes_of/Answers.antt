use Rattle.std.proofs.Common.{List, [], ◌∷◌, ◌++◌, sym, ap, ◌∙◌}
use Rattle.mj_globs.specs.declared.change.Change.{Change}
use Rattle.mj_txn.specs.Commits.{changes_of}
use Rattle.mj_txn.proofs.Replies.{changes_next}
use Rattle.mj_txn.proofs.writes.changes_of.Goals as goal

pub loop-entry-preserved : goal.loop-entry-preserved
loop-entry-preserved c =
    c.in_ok-add_change.ensures
    ∙ ap (λ (cs : List Change). cs ++ changes_of (c.entry-item.result ∷ [])) c.loop-entry.invariant
    ∙ sym (changes_next c.args.entries.now c.loop-entry.entry-index c.entry-item.result c.loop-entry-test.true c.entry-item.is)
