use Rattle.std.proofs.Common.{sym, ap}
use Rattle.mj_store.specs.Nodes.{data_of}
use Rattle.mj_store.specs.Questions.{Subtree}
use Rattle.mj_globs.proofs.texts.TextsStore.data.Goals as goal

pub returns-in-None : goal.returns-in-None
returns-in-None c = sym (ap (λ (m : Subtree). data_of m) (c.in-None.ensures.own c.args.name.now.subscripts))
