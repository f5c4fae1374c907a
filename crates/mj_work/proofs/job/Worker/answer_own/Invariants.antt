use Rattle.std.proofs.Common.{◌≡◌}
use Rattle.mj_core.specs.Answering.{Stays}
use Rattle.mj_work.proofs.job.Worker.answer_own.Given as goal

abbrev pub invariant-loop : goal.invariant-loop
invariant-loop g l =
    (goal.iterator-loop g).can_next l.iterator' × (goal.iterator-loop g).is_finite l.iterator' × (l.job ≡ l.fn.job)
    × Stays g.A.Answerer.answering l.fn.answerer l.answerer
