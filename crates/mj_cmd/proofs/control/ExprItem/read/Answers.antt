use Rattle.std.proofs.Common.{false, inl, refl}
use Rattle.mj_cmd.proofs.control.ExprItem.read.Goals as goal

pub returns-clause-first : goal.returns-clause-first
returns-clause-first c = λ q m r b. c.value.ensures.reads m r q b

pub returns-clause-more : goal.returns-clause-more
returns-clause-more c = λ q m r. c.value.ensures.reads m r false (inl refl)
