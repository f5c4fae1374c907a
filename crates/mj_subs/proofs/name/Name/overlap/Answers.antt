-- What the test says follows from what it computes.
use Rattle.std.proofs.Common.{◌≡◌, arith}
use Rattle.std.proofs.lemmas.Grind.{common_steps}
use Rattle.std.proofs.lemmas.Bool.Decides.{Decides-at}
use Rattle.mj_subs.specs.Name.{overlaps}
use Rattle.mj_subs.specs.Laws.Tests.{overlaps-Decides}
use Rattle.mj_subs.proofs.name.Name.overlap.Goals as goal

pub returns-then-is_of_same_variable-clause-meaning : goal.returns-then-is_of_same_variable-clause-meaning
returns-then-is_of_same_variable-clause-meaning c =
    let value : c.is_in_line_with.result ≡ overlaps c.args.self.now c.args.other.now = grind (arith, common_steps) in
    Decides-at _ _ value (overlaps-Decides c.args.self.now c.args.other.now)
