use Rattle.std.proofs.Common.{None, ap, ◌∙◌, slice_set, slice_index_or}
use Rattle.mj_sys.specs.Kept.{without}
use Rattle.mj_sys.proofs.Each.{one_further}
use Rattle.mj_sys.proofs.shared.release_all.Goals as goal

pub loop-holder-preserved : goal.loop-holder-preserved
loop-holder-preserved c =
    let job = c.args.job in
    let i = c.loop-holder.holder-index in
    ap (λ h. slice_set c.loop-holder.holder-items i h) c.release.ensures
    ∙ ap (λ l. slice_set l i (without job (slice_index_or l i None))) c.loop-holder.invariant
    ∙ one_further (without job) c.args.holders.now i None c.loop-holder-test.true
