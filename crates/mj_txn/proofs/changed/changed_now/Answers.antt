use Rattle.std.proofs.Common.{sym}
use Rattle.std.proofs.lemmas.Result.{IfOk-weaker}
use Rattle.mj_txn.proofs.Replies.{fresh_holds, told_read}
use Rattle.mj_txn.proofs.changed.changed_now.Goals as goal

pub returns-then-not-is_stale-clause-changed : goal.returns-then-not-is_stale-clause-changed
returns-then-not-is_stale-clause-changed c =
    fresh_holds c.args.globals.now c.args.earlier.now c.args.entry.now c.args.stamp c.requires.follows (sym c.if-not-is_stale.ensures)

pub returns-else-not-is_stale-clause-changed : goal.returns-else-not-is_stale-clause-changed
returns-else-not-is_stale-clause-changed c =
    IfOk-weaker c.changed_read.result _ _
    (λ o told. told_read c.args.globals.now.content c.texts.result.now c.args.earlier.now c.args.entry.now c.in-Access.access c.in-Access.then o c.texts.ensures c.in-Access.is
    (sym c.if-is_write.ensures) told)
    c.changed_read.ensures.changed
