-- The slices have the length of the shorter list.
use Rattle.std.proofs.Common.{◌∙◌, arith}
use Rattle.mj_subs.specs.Laws.Tests.{pointwise-common}
use Rattle.mj_subs.proofs.subs.Subs.is_in_line_with.Goals as goal

pub returns : goal.returns
returns c =
    let compared = rw (c.as_slice.ensures.value, c.as_slice-2.ensures.value) at c.eq.ensures in
    compared ∙ pointwise-common c.args.self.now c.args.other.now c.min-common.result (omega arith)
