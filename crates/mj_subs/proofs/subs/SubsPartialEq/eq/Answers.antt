use Rattle.std.proofs.Common.{◌≡◌, rules}
use Rattle.std.specs.Str.{bytes_eq}
use Rattle.std.specs.Cmp.Lexicographic.{pointwise}
use Rattle.std.proofs.lemmas.Bool.Decides.{Decides-at}
use Rattle.mj_subs.specs.Laws.Tests.{lists_eq-Decides}
use Rattle.mj_subs.proofs.subs.SubsPartialEq.eq.Goals as goal

pub returns-clause-same : goal.returns-clause-same
returns-clause-same c =
    let value : c.eq.result ≡ pointwise bytes_eq c.args.self.now c.args.other.now = search rules in
    Decides-at _ _ value (lists_eq-Decides c.args.self.now c.args.other.now)
