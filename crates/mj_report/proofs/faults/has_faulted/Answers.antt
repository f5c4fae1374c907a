use Rattle.std.proofs.Common.{sym, ◌∙◌, arith}
use Rattle.mj_report.proofs.Counting.{fault_there, no_fault}
use Rattle.mj_report.proofs.faults.has_faulted.Goals as goal

pub returns-then-faults_at : goal.returns-then-faults_at
returns-then-faults_at g c = sym (fault_there (g.H.Events.history c.args.told.now) c.events.at (sym c.faults_at.ensures ∙ c.if-faults_at.true))

pub returns : goal.returns
returns g c =
    sym (no_fault (g.H.Events.history c.args.told.now) (λ k few. c.events.invariant k (omega (arith, few, c.events-test.false, c.count-at-end.ensures))))
