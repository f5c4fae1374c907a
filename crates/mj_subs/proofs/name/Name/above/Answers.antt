-- What the test says follows from what it computes.
use Rattle.std.proofs.Common.{◌≡◌, arith}
use Rattle.std.proofs.lemmas.Grind.{common_steps}
use Rattle.std.proofs.lemmas.Bool.Decides.{Decides-at}
use Rattle.mj_subs.specs.Name.{is_above}
use Rattle.mj_subs.specs.Laws.Tests.{is_above-Decides}
use Rattle.mj_subs.proofs.name.Name.above.Goals as goal

pub returns-then-is_of_same_variable-clause-meaning : goal.returns-then-is_of_same_variable-clause-meaning
returns-then-is_of_same_variable-clause-meaning c =
    let value : c.is_front_of.result ≡ is_above c.args.self.now c.args.other.now = grind (arith, common_steps) in
    Decides-at _ _ value (is_above-Decides c.args.self.now c.args.other.now)
