use Rattle.std.proofs.Common.{arith}
use Rattle.mj_gfile.proofs.Sizes.{is_text_within}
use Rattle.mj_gfile.proofs.writing.lie_within.Goals as goal

pub returns : goal.returns
returns c = is_text_within c.args.bytes.now c.requires (λ i l. let fits = c.type_inv.bytes i in omega arith)
