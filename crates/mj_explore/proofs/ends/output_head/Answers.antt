use Rattle.std.proofs.Common.{append_assoc}
use Rattle.mj_explore.proofs.ends.output_head.Goals as goal

pub returns : goal.returns
returns c = simp append_assoc c.in_ok-head.ensures.ok
