use Rattle.mj_text.proofs.ShortLemmas.{take-two_writes}
use Rattle.mj_text.proofs.short.Short.of.Goals as goal

pub returns : goal.returns
returns c = rw (c.copy_from_slice.ensures.after, c.copy_from_slice-2.ensures.after) (take-two_writes c.args.front.now c.args.back.now _ _)
