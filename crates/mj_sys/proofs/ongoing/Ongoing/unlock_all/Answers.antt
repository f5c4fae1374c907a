use Rattle.std.specs.Map.{values_of}
use Rattle.mj_txlog.specs.declared.entry.Unlock.TheVariants as unlocks
use Rattle.mj_sys.proofs.Passing.{open_same, gone_waiting}
use Rattle.mj_sys.proofs.ongoing.Ongoing.unlock_all.Goals as goal

pub returns-clause-open : goal.returns-clause-open
returns-clause-open c =
    let i = c.self.inside in
    let made = c.unlock in
    open_same c.args.self.now i.log made.new.self (values_of i.passed.entries) c.self.view_is made.ensures.follows
    (gone_waiting made.result i.log.transaction made.new.self.transaction unlocks.All made.ensures.appended made.ensures.unchanged)
