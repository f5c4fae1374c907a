use Rattle.std.proofs.Common.{rules, ◌≡◌, [], sym, subst}
use Rattle.mj_store.specs.Runs.{name_of, answer_of}
use Rattle.mj_globs.specs.Stamps.{stamp_at}
use Rattle.mj_txlog.specs.Accesses.{seen, reply_in, with_reply}
use Rattle.mj_txlog.specs.Logged.{Logged}
use Rattle.mj_txlog.specs.Follows.{Follows}
use Rattle.mj_txlog.proofs.Goes.{reply_skips, result_skips}
use Rattle.mj_txlog.proofs.Appending.{read_follows}
use Rattle.mj_txlog.proofs.log.TxLog.see.Goals as goal

pub returns-then-is_write-clause-skips : goal.returns-then-is_write-clause-skips
returns-then-is_write-clause-skips c =
    let t = c.args.self.now.transaction in
    let r = reply_in t [] c.args.access in
    result_skips c.args.globals.now.content c.args.skips.now t c.write.new.self.transaction (with_reply t c.args.access r) c.write.result c.requires
    (reply_skips c.args.globals.now.content c.args.skips.now t c.args.access r c.requires)
    c.write.ensures.appended c.write.ensures.unchanged

pub returns-in-Ok-clause-follows : goal.returns-in-Ok-clause-follows
returns-in-Ok-clause-follows c =
    let g = c.args.globals.now in
    let laid = c.answers.new.self in
    let told : c.in-Ok.kept ≡ answer_of c.args.access (seen g.content laid.transaction.accesses) = search rules in
    let stamp : c.stamp-stamp.result ≡ stamp_at g.stamps (name_of c.args.access) = search rules in
    λ was. read_follows c.append.result g laid c.append.new.self c.args.access c.in-Ok.kept c.stamp-stamp.result c.append.ensures.each told stamp c.append.ensures.appended
    c.append.ensures.stamped c.append.ensures.unchanged c.append.ensures.same (subst (λ (l : Logged). Follows l g) (sym c.answers.ensures.same) was)
