use Rattle.std.proofs.Common.{◌∙◌}
use Rattle.mj_subs.specs.Laws.Total.{subscripts_cmp-slice}
use Rattle.mj_store.proofs.flat.compare.Goals as goal

pub returns : goal.returns
returns c = c.cmp.ensures ∙ subscripts_cmp-slice c.args.a.now c.args.b.now
