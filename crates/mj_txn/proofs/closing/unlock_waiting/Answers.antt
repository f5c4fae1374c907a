use Rattle.std.proofs.Common.{[], ◌∷◌, sym, ap, ◌∙◌}
use Rattle.mj_locktab.specs.Locks.{Locks}
use Rattle.mj_txn.specs.Closing.{unlocked}
use Rattle.mj_txn.proofs.Waiting.{unlocked_next}
use Rattle.mj_txn.proofs.closing.unlock_waiting.Goals as goal

pub loop-entry-preserved : goal.loop-entry-preserved
loop-entry-preserved c =
    let entry = c.entry-item.result in
    c.unlock_by.ensures
    ∙ ap (λ (l : Locks). unlocked l c.args.job (entry ∷ [])) c.loop-entry.invariant
    ∙ sym (unlocked_next c.args.locks.now.holds c.args.job c.args.entries.now c.loop-entry.entry-index entry c.loop-entry-test.true c.entry-item.is)
