use Rattle.std.proofs.Common.{sym, subst}
use Rattle.std.specs.Map.{values_of}
use Rattle.mj_store.specs.Questions.{Content}
use Rattle.mj_txlog.specs.Skips.{AreSkips, gone_by}
use Rattle.mj_sys.proofs.Passing.{no_skips, open_told}
use Rattle.mj_sys.proofs.ongoing.Ongoing.access.Goals as goal

pub access-told-requires : goal.access-told-requires
access-told-requires c =
    let g = c.args.globals.now.content in
    let gone = gone_by c.self.inside.log.transaction.accesses in
    subst (λ (runs : Content). AreSkips g gone runs) (sym c.new-skips.ensures) (no_skips g gone)

pub returns-clause-open : goal.returns-clause-open
returns-clause-open c =
    let i = c.self.inside in
    let made = c.access-told in
    open_told made.result c.args.globals.now c.args.self.now i.log made.new.log (values_of i.passed.entries) (values_of i.passed.entries) c.args.access.now c.self.view_is
    made.ensures.log made.ensures.unchanged made.ensures.follows (λ were. were) c.requires
