use Rattle.std.proofs.Common.{List, ℕ, Option, subst}
use Rattle.std.specs.Option.{IfSome}
use Rattle.mj_txlog.specs.Skips.{LiesInRun, Joins}
use Rattle.mj_txlog.proofs.Passing.{within}
use Rattle.mj_txlog.proofs.skips.Skips.join.Goals as goal

pub returns-in-Some : goal.returns-in-Some
returns-in-Some c =
    within c.args.self.now c.lengthen-done.new.self c.args.front.now c.args.from.now c.args.to.now c.in-Some.first c.in-Some.last
    (subst (λ (r : Option (List ℕ × List ℕ)). IfSome r (λ run. LiesInRun c.args.self.now c.args.front.now c.args.from.now run.0 run.1)) c.in-Some.is c.in_ok-first.ensures)
    (subst (λ (x : List ℕ). Joins c.args.self.now c.args.front.now c.in-Some.first x c.lengthen-done.new.self) c.later.ensures c.lengthen-done.ensures)
