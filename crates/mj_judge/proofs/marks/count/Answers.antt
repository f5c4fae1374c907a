use Rattle.std.specs.Prelude.{slice_get}
use Rattle.std.proofs.Common.{◌+◌, ◌∙◌, ap, arith}
use Rattle.mj_judge.specs.Marks.{bears_at}
use Rattle.mj_judge.proofs.Counting.{one_more, at_most}
use Rattle.mj_judge.proofs.marks.count.Goals as goal

pub events-preserved : goal.events-preserved
events-preserved g c =
    let l = c.events in
    record {
      counted = ap (λ n. l.count + n) c.share-count.ensures
          ∙ one_more c.args.mark c.args.core.now.history l.at l.count (omega (arith, c.events-test.true, c.len-at-end.ensures.value)) l.invariant.counted;
      few = omega (arith, l.invariant.few, c.share-count.ensures, at_most (bears_at c.args.mark (slice_get c.args.core.now.history l.at)));
    }
