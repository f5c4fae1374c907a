use Rattle.mj_locals.proofs.Letters.{none_led}
use Rattle.mj_locals.proofs.index.Index.new.Goals as goal

pub invariant_of-result : goal.invariant_of-result
invariant_of-result c = none_led c.no_letters.result c.new.result.entries c.no_letters.ensures
