use Rattle.std.proofs.Common.{ap, ◌∙◌}
use Rattle.mj_gather.specs.Lent.{lent, left_at}
use Rattle.mj_gather.proofs.gathering.merge.Goals as goal

pub tell_all-requires-clause-begins : goal.tell_all-requires-clause-begins
tell_all-requires-clause-begins g c =
    let logs = lent c.args.logs.now in
    ap (left_at logs) c.deref_mut.ensures.value ∙ c.in_ok-places.ensures.1 logs
