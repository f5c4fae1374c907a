use Rattle.std.proofs.Common.{false, inl, inr, refl, true}
use Rattle.mj_cmd.proofs.control.RenewedItem.read.Goals as goal

pub returns-clause-first : goal.returns-clause-first
returns-clause-first c = λ q m r b. c.renewed.ensures.reads m r true (inr b)

pub returns-clause-more : goal.returns-clause-more
returns-clause-more c = λ q m r. c.renewed.ensures.reads m r false (inl refl)
