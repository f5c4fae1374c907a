use Rattle.std.proofs.Common.{sym, ap, ◌∙◌}
use Rattle.mj_globs.specs.Stamps.{stamp_at}
use Rattle.mj_txlog.specs.Skips.{gone_by}
use Rattle.mj_sys.proofs.Passing.{passed_at}
use Rattle.mj_sys.proofs.passed.PassedWord.access.Goals as goal

pub access-told-requires : goal.access-told-requires
access-told-requires c = c.renew.ensures.skips (gone_by c.args.log.now.transaction.accesses) c.requires

pub returns-clause-passed : goal.returns-clause-passed
returns-clause-passed c =
    let g = c.args.globals.now in
    passed_at g (gone_by c.access-told.new.log.transaction.accesses) c.name-2.result.now c.limit.new.self
    (c.limit.ensures.at ∙ c.renew.ensures.at ∙ ap (stamp_at g.stamps) (c.name.ensures ∙ sym c.name-2.ensures))
    c.limit.ensures.within (c.limit.ensures.skips g.content (gone_by c.access-told.new.log.transaction.accesses) c.access-told.ensures.skips)
