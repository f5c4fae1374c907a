use Rattle.std.specs.Map.{values_of}
use Rattle.mj_sys.proofs.Passing.{open_same, gone_tried}
use Rattle.mj_sys.proofs.ongoing.Ongoing.try_take.Goals as goal

pub returns-clause-open : goal.returns-clause-open
returns-clause-open c =
    let i = c.self.inside in
    let made = c.try_take in
    open_same c.args.self.now i.log made.new.log (values_of i.passed.entries) c.self.view_is made.ensures.follows
    (gone_tried _ made.result i.log.transaction made.new.log.transaction c.args.names.now made.ensures.log made.ensures.unchanged)
