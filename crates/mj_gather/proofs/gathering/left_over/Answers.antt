use Rattle.std.specs.Borrow.{Bor}
use Rattle.std.proofs.Common.{◌<◌, length, get_or, ap, arith}
use Rattle.mj_jobvm.specs.Run.{Log}
use Rattle.mj_gather.proofs.Shown.{left_more}
use Rattle.mj_gather.proofs.gathering.left_over.Goals as goal

pub returns-then-places-at-clause-some : goal.returns-then-places-at-clause-some
returns-then-places-at-clause-some c =
    let logs = c.args.logs.now in
    let places = c.args.places.now in
    let same = ap (λ (l : Bor Log). length l.now) c.index-logs-at.is in
    let more : get_or places c.loop-at.at 0 < length c.index-logs-at.result.now = omega (arith, same) in (
      omega arith,
      (λ none. left_more logs places c.loop-at.at c.index-logs-at.result 0 c.loop-at-test.true (omega arith) c.index-logs-at.is more none),
    )
