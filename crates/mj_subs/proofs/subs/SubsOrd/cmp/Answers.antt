use Rattle.mj_subs.specs.Laws.Total.{subscripts_cmp-slice}
use Rattle.mj_subs.proofs.subs.SubsOrd.cmp.Goals as goal

pub returns : goal.returns
returns c = rw (subscripts_cmp-slice, ← c.as_slice.ensures.value, ← c.as_slice-2.ensures.value) c.cmp.ensures
