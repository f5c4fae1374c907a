use Rattle.mj_unsupported.proofs.left.named.Goals as goal

pub returns : goal.returns
returns c = c.first_of.ensures
