use Rattle.std.proofs.Common.{Some, None, refl, ◌∙◌}
use Rattle.mj_locktab.specs.Trees.{spelled}
use Rattle.mj_locktab.proofs.Spelled.{told_below, nobody_below}
use Rattle.mj_locktab.proofs.words.least_other.Goals as goal

pub returns-in-None-clause-least : goal.returns-in-None-clause-least
returns-in-None-clause-least c =
    let n = c.args.name.now in
    told_below (spelled c.args.words.now.entries) n.word c.word.result.now n.subscripts n.subscripts c.args.job None None c.word.ensures refl c.in-None.ensures.node
    (nobody_below n.subscripts c.args.job)

pub returns-in-Some-clause-least : goal.returns-in-Some-clause-least
returns-in-Some-clause-least c =
    let n = c.args.name.now in
    told_below (spelled c.args.words.now.entries) n.word c.word.result.now n.subscripts c.as_slice.result.now c.args.job c.least_other.result (Some c.in-Some.node.now) c.word.ensures
    (c.as_slice.ensures.value ∙ c.subscripts.ensures) c.in-Some.ensures.node c.least_other.ensures.least
