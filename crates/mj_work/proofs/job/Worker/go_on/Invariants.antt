use Rattle.mj_work.specs.Working.{IsAt}
use Rattle.mj_work.proofs.job.Worker.go_on.Given as goal

abbrev pub invariant-loop : goal.invariant-loop
invariant-loop g l =
    (goal.iterator-loop g).can_next l.iterator' × (goal.iterator-loop g).is_finite l.iterator' × IsAt g.A.Answerer.answering l.self.image.now l.claim l.halted l.job l.answerer
